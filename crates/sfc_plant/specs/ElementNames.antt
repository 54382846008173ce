-- The places of steps, actions and transitions by name (2.6.2, 2.6.3, 2.6.4.1).
use Rattle.std.specs.Prelude.{ℕ, Bool, false, List, Option, Some, None, position}
use Rattle.sfc_base.specs.Case.{same_word}
use Rattle.sfc_plant.specs.declared.chart.Chart.{Chart}

-- what may have a name has this one
abbrev pub is_named : List ℕ → Option (List ℕ) → Bool
is_named name None = false
is_named name (Some own) = same_word name own

abbrev pub step_place : Chart → List ℕ → Option ℕ
step_place chart name = position (λ step. same_word name step.name) chart.steps

abbrev pub action_place : Chart → List ℕ → Option ℕ
action_place chart name = position (λ action. same_word name action.name) chart.actions

abbrev pub transition_place : Chart → List ℕ → Option ℕ
transition_place chart name = position (λ transition. is_named name transition.name) chart.transitions
