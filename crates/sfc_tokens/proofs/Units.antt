-- The unit of a part.
use Rattle.std.proofs.Common.{◌≡◌, ℕ, Bool, true, false, cond, List, [], ◌∷◌, Option, Some, None, refl, sym, ap, ◌∙◌}
use Rattle.sfc_base.specs.declared.unit.Unit.{Unit as TimeUnit}
use Rattle.sfc_tokens.specs.Lexing.Durations.{Split, split_part, part, is_unit, unit_among, interval}

-- what an interval is where its first part has this unit, and none where it has none
abbrev pub interval_of : Option (TimeUnit × List TimeUnit) → List ℕ → Option ℕ
interval_of None w = None
interval_of (Some u) w = part u.0 (split_part w) (interval u.1)

one_unit : (b : Bool) (u : TimeUnit) (us : List TimeUnit) (w : List ℕ)
    → interval us w ≡ interval_of (unit_among us (split_part w).2) w
    → cond b (part u (split_part w) (interval us)) (interval us w)
    ≡ interval_of (cond b (Some (u, us)) (unit_among us (split_part w).2)) w
one_unit true u us w e = refl
one_unit false u us w e = e

pub interval_is : (us : List TimeUnit) (w : List ℕ) → interval us w ≡ interval_of (unit_among us (split_part w).2) w
unfolding unit_among interval
interval_is [] w = refl
interval_is (u ∷ us) w = one_unit (is_unit u (split_part w).2) u us w (interval_is us w)

-- where the split of a word is known
pub interval_by : (us : List TimeUnit) (w : List ℕ) (s : Split) (o : Option (TimeUnit × List TimeUnit)) → s ≡ split_part w
    → unit_among us s.2 ≡ o → interval us w ≡ interval_of o w
interval_by us w s o e f = interval_is us w ∙ ap (λ (x : Split). interval_of (unit_among us x.2) w) (sym e) ∙ ap (λ x. interval_of x w) f
