-- The places of steps and transitions by name.
use Rattle.std.proofs.Common.{◌≡◌, ℕ, ◌<◌, nat_lt, Bool, true, false, cond, List, length, Some, None, refl, arith}
use Rattle.std.specs.List.{position, position_or_len}
use Rattle.std.proofs.lemmas.Bool.Decides.{nat_tests}
use Rattle.sfc_plant.specs.declared.chart.Chart.{Chart}
use Rattle.sfc_plant.specs.ElementNames.{step_place, transition_place, is_named}
use Rattle.sfc_base.specs.Case.{same_word}

-- the place of what is found is one of the list's
place_within : {X : Type 0} (p : X → Bool) (xs : List X) (i : ℕ) → position p xs ≡ Some i → i < length xs
place_within p xs i e = by (position_or_len p xs) (nat_lt (position_or_len p xs) (length xs)) refl e
  where
    by : (n : ℕ) (t : Bool) → nat_lt n (length xs) ≡ t → cond t (Some n) None ≡ Some i → i < length xs
    by n true f h = let same : n ≡ i = cc in grind (arith, nat_tests)
    by n false f h = absurd cc

pub step_within : (chart : Chart) (name : List ℕ) (i : ℕ) → step_place chart name ≡ Some i → i < length chart.steps
step_within chart name i e = place_within (λ step. same_word name step.name) chart.steps i e

pub transition_within : (chart : Chart) (name : List ℕ) (i : ℕ) → transition_place chart name ≡ Some i → i < length chart.transitions
transition_within chart name i e = place_within (λ transition. is_named name transition.name) chart.transitions i e
