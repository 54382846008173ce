-- The parts of a TIME text.
use Rattle.std.proofs.Common.{◌≡◌, ◌≢◌, ◌<◌, ◌/◌, ◌%◌, ℕ, List, [], ◌∷◌, ◌++◌, refl, ◌∙◌, ap, codes, eqb, Bool, cond, false, arith}
use Rattle.std.proofs.lemmas.Bool.{ne_eqb}
use Rattle.std.proofs.Math.Nat.{div-eq_of_lt, mod-eq_of_lt}
use Rattle.sfc_base.specs.declared.unit.Unit.{Unit}
use Rattle.sfc_base.specs.declared.unit.Unit.TheVariants.{Day, Hour, Minute, Second}
use Rattle.sfc_base.specs.Durations.{micros_of}
use Rattle.sfc_base.specs.TimeText.{part_text, parts_text, magnitude_text, above_milliseconds}
use Rattle.sfc_page.specs.Private.Seconds.{seconds_text}

no_part : (u : Unit) (us : List Unit) (v : ℕ) → v < micros_of u → parts_text (u ∷ us) v ≡ parts_text us v
unfolding parts_text
no_part u us v lt =
    let none : v / micros_of u ≡ 0 = div-eq_of_lt lt in
    let left : v % micros_of u ≡ v = mod-eq_of_lt lt in
    (λ i. part_text (none i) u (eqb (v % micros_of u) 0) ++ parts_text us (left i))

seconds : (v : ℕ) → parts_text (Second ∷ []) v ≡ seconds_text v
unfolding parts_text seconds_text
seconds v = refl

nonzero : (v : ℕ) → eqb v 0 ≡ false → magnitude_text v ≡ parts_text above_milliseconds v
nonzero v e = ap (λ (b : Bool). cond b (codes "0s") (parts_text above_milliseconds v)) e

-- less than a minute has no part above the seconds
pub below_minute : (v : ℕ) → v ≢ 0 → v < 60000000 → magnitude_text v ≡ seconds_text v
below_minute v ne lt = nonzero v (ne_eqb v 0 ne) ∙ (no_part Day (Hour ∷ Minute ∷ Second ∷ []) v (omega arith)
    ∙ no_part Hour (Minute ∷ Second ∷ []) v (omega arith) ∙ no_part Minute (Second ∷ []) v (omega arith) ∙ seconds v)
