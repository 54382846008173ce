-- Which conditions are TRUE.
use denote.Struct.Props.{props}
use Rattle.std.proofs.Common.{◌≡◌, ◌<◌, ◌==◌, ◌∙◌, cond, ℕ, zero, suc, Bool, true, false, List, ◌∷◌, refl, ap, slice_set, arith}
use Rattle.sfc_base.specs.declared.ids.TransitionId.{TransitionId}
use Rattle.sfc_flags.specs.Flags.{flag}
use Rattle.sfc_evolve.specs.Evolution.{IsAlone}
use Rattle.sfc_evolve.proofs.Flagged.{one_set}
use Rattle.sfc_evolve.proofs.Next.{none_set}
use Rattle.std.specs.Prelude.{replicate}
use Rattle.std.proofs.lemmas.Bool.Decides.{nat_tests}
use Rattle.std.proofs.lemmas.List.{length-replicate}
use Rattle.sfc_instance.specs.declared.holding.Holding.{Holding}
use Rattle.sfc_instance.specs.declared.holding.Holding.TheVariants as holding
use Rattle.sfc_instance.specs.Private.Holding.{AreHeld}

-- a flag that was set alone is cleared again
pub cleared_again : (n r : ℕ) → slice_set (slice_set (replicate n false) r true) r false ≡ replicate n false
cleared_again zero r = refl
cleared_again (suc n) zero = refl
cleared_again (suc n) (suc r) = ap (λ (xs : List Bool). false ∷ xs) (cleared_again n r)

same_either_way : (a b : ℕ) → cond (a == b) true false ≡ (b == a)
same_either_way a b = grind (arith, nat_tests)

-- the flag that is set alone
pub alone : (n : ℕ) (transition : TransitionId) (conditions : List Bool) → transition.0 < n
    → conditions ≡ slice_set (replicate n false) transition.0 true → IsAlone transition.0 conditions
alone n transition conditions lt is k =
    ap (λ (xs : List Bool). flag xs k) is
    ∙ one_set (replicate n false) true transition.0 k (omega (arith, lt, length-replicate n false))
    ∙ ap (λ (b : Bool). cond (transition.0 == k) true b) (none_set n k)
    ∙ same_either_way transition.0 k

-- they are told in one way at most
pub held_prop : (n : ℕ) (held : Holding) (conditions : List Bool) → IsProp (AreHeld n held conditions)
held_prop n holding.Nothing conditions = hlevel props
held_prop n (holding.One tr) conditions = hlevel props
held_prop n holding.Any conditions = hlevel props
