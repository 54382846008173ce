-- The names of actions by number, and actions by name (2.1.2, 2.6.4.1).
use Rattle.std.specs.Prelude.{ℕ, List, [], position, slice_get, Option, Some, None, option_map}
use Rattle.sfc_base.specs.Case.{same_word}
use Rattle.sfc_base.specs.declared.ids.ActionNumber.{ActionNumber}
use Rattle.sfc_plant.specs.declared.association.Target.{Target}
use Rattle.sfc_plant.specs.Names.{target_name}
use Rattle.sfc_plant.specs.Spaces.{Space}
use Rattle.sfc_tables.specs.Tables.{Tabled}

-- the name of an action, where there is one
abbrev pub name_of_action : Space → Option Target → List ℕ
name_of_action space None = []
name_of_action space (Some target) = target_name space target

-- the name of the action with this number
abbrev pub numbered_action : Space → Tabled → ℕ → List ℕ
numbered_action space tables a = name_of_action space (slice_get tables.actions a)

-- the first of these actions with this name, in the order of their numbers
abbrev pub action_named : Space → List Target → List ℕ → Option ActionNumber
action_named space actions name =
    option_map (λ place. record { 0 = place }) (position (λ target. same_word name (target_name space target)) actions)
