-- The elements of a program type by kind, each kind in text order (2.6.2, 2.6.3, 2.6.4.1).
use Rattle.std.specs.Prelude.{ℕ, List, map, Option, Some, None, sum_by, length}
use Rattle.std.specs.List.{filter_map}
use Rattle.sfc_text.specs.declared.tree.Step.{Step}
use Rattle.sfc_text.specs.Trees.{ElementTree, AStep, ATransition, AnAction, TransitionTree, ActionTree}

abbrev pub step_in : ElementTree → Option Step
step_in (AStep s) = Some s
step_in _ = None

abbrev pub transition_in : ElementTree → Option TransitionTree
transition_in (ATransition t) = Some t
transition_in _ = None

abbrev pub action_in : ElementTree → Option ActionTree
action_in (AnAction a) = Some a
action_in _ = None

-- the name of a transition, if it has one
abbrev pub transition_name_in : ElementTree → Option (List ℕ)
transition_name_in (ATransition t) = t.name
transition_name_in _ = None

abbrev pub steps_of : List ElementTree → List Step
steps_of elements = filter_map step_in elements

abbrev pub transitions_of : List ElementTree → List TransitionTree
transitions_of elements = filter_map transition_in elements

abbrev pub actions_of : List ElementTree → List ActionTree
actions_of elements = filter_map action_in elements

abbrev pub step_names : List ElementTree → List (List ℕ)
step_names elements = map (λ s. s.name) (steps_of elements)

abbrev pub action_names : List ElementTree → List (List ℕ)
action_names elements = map (λ a. a.name) (actions_of elements)

-- the names of those transitions that have one
abbrev pub transition_names : List ElementTree → List (List ℕ)
transition_names elements = filter_map transition_name_in elements

abbrev pub association_count : List Step → ℕ
association_count steps = sum_by (λ s. length s.associations) steps
