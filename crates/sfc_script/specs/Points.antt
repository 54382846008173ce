-- The points of a chart at which a breakpoint may stand: a step, a transition or an action (our choice of format).
use Rattle.std.specs.Prelude.{ℕ, ◌-◌, nat_lt, Bool, true, ◌&&◌, if◌then◌else◌, List, [], ◌∷◌, codes}
use Rattle.std.specs.Prelude.{Option, Some, None, option_map, option_and_then, unwrap_or}
use Rattle.sfc_base.specs.Case.{same_word}
use Rattle.sfc_base.specs.Classes.{between}
use Rattle.sfc_base.specs.declared.ids.ActionNumber.{ActionNumber}
use Rattle.sfc_base.specs.declared.ids.ProgId.{ProgId}
use Rattle.sfc_base.specs.declared.ids.TransitionId.{TransitionId}
use Rattle.sfc_base.specs.declared.references.StepId.{StepId}
use Rattle.sfc_plant.specs.Finding.{chart_of, step_named, transition_named}
use Rattle.sfc_plant.specs.InstanceSpaces.{space_of}
use Rattle.sfc_plant.specs.Plants.{PlantData}
use Rattle.sfc_debug.specs.sfc_tables.ActionNames.{action_named}
use Rattle.sfc_debug.specs.sfc_tables.Actions.{actions_of}
use Rattle.sfc_events.specs.declared.command.Point.{Point}
use Rattle.sfc_events.specs.declared.command.Point.TheVariants.{Step, Transition, Action}
use Rattle.sfc_script.specs.Lines.{first_word}
use Rattle.sfc_script.specs.Values.{decimal_of, limited}

-- ---- steps

-- the step of a program instance with this name; else a number that no chart has
abbrev pub step_of : PlantData → ProgId → List ℕ → StepId
step_of plant p name = unwrap_or (step_named plant p name) (record { 0 = 65535 })

-- ---- transitions

-- decimal digits alone
abbrev pub are_digits : List ℕ → Bool
are_digits [] = true
are_digits (b ∷ word) = between 48 57 b && are_digits word

-- the transition that is counted as this one, from 1
abbrev pub counted_as : ℕ → Option TransitionId
counted_as n = if nat_lt 0 n then Some (record { 0 = n - 1 }) else None

-- a number from 1 to 65,535; no other is that of a transition, whatever the plant is
abbrev pub numbered_transition : List ℕ → Option TransitionId
numbered_transition word = option_and_then counted_as (limited 65535 (decimal_of word))

-- a word of digits alone is a number, and any other is a name
abbrev pub find_transition : PlantData → ProgId → List ℕ → Option TransitionId
find_transition plant p word = if are_digits word then numbered_transition word else transition_named plant p word

-- a name that isn't found stands for a number that no chart has
abbrev pub transition_of : PlantData → ProgId → List ℕ → Option TransitionId
transition_of plant p word =
    if are_digits word then numbered_transition word else
    Some (unwrap_or (transition_named plant p word) (record { 0 = 65535 }))

-- ---- actions

-- the first action of a program instance with this name, in the order of their numbers
abbrev pub find_action : PlantData → ProgId → List ℕ → Option ActionNumber
find_action plant p name = action_named (space_of plant p) (actions_of (chart_of plant p)) name

-- else a number that no chart has
abbrev pub action_of : PlantData → ProgId → List ℕ → ActionNumber
action_of plant p name = unwrap_or (find_action plant p name) (record { 0 = 65535 })

-- ---- points

-- The point that a word is behind this keyword, in any case: STEP name, ACTION name, TRANSITION number or TRANSITION name.
abbrev pub point_of : PlantData → ProgId → List ℕ → List ℕ → Option Point
point_of plant p keyword word =
    if same_word keyword (codes "STEP") then Some (Step (step_of plant p word)) else
    if same_word keyword (codes "ACTION") then Some (Action (action_of plant p word)) else
    if same_word keyword (codes "TRANSITION") then option_map (λ t. Transition t) (transition_of plant p word) else None

-- a point in front of a line, and what stands behind it
abbrev pub point_behind : PlantData → ProgId → List ℕ × List ℕ → Option (Point × List ℕ)
point_behind plant p k =
    option_and_then (λ w. option_map (λ point. (point, w.1)) (point_of plant p k.0 w.0)) (first_word k.1)

abbrev pub first_point : PlantData → ProgId → List ℕ → Option (Point × List ℕ)
first_point plant p rest = option_and_then (point_behind plant p) (first_word rest)
