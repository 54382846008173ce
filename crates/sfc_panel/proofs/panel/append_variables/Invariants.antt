use Rattle.std.proofs.Common.{◌≡◌, ◌++◌, length}
use Rattle.sfc_events.specs.History.{History}
use Rattle.sfc_output.specs.sfc_core.Agreement.{plant_of}
use Rattle.sfc_output.specs.sfc_core.PlantState.{state_of}
use Rattle.sfc_panel.specs.Changes.{Stands, variable_changes}
use Rattle.sfc_panel.proofs.panel.append_variables.Given as goal

abbrev pub invariant-all : goal.invariant-all
invariant-all l = (h g : History) → Stands l.passed h g →
    let plant = plant_of l.passed.before.now in
    l.initial.out.items ++ variable_changes plant (state_of plant h) (state_of plant g) l.initial.rest
    ≡ l.out.items ++ variable_changes plant (state_of plant h) (state_of plant g) l.rest

abbrev pub decreases-all : goal.decreases-all
decreases-all l = length l.rest
