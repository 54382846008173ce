use Rattle.std.proofs.Common.{◌≡◌, ◌++◌}
use Rattle.sfc_events.specs.History.{History}
use Rattle.sfc_output.specs.sfc_core.Agreement.{plant_of}
use Rattle.sfc_output.specs.sfc_core.PlantState.{state_of}
use Rattle.sfc_panel.specs.Changes.{Stands, program_changes}
use Rattle.sfc_panel.proofs.panel.append_programs.Given as goal

abbrev pub invariant-loop-k : goal.invariant-loop-k
invariant-loop-k l = (h g : History) → Stands l.passed h g →
    let plant = plant_of l.passed.before.now in
    l.out.items ≡ l.initial.out.items ++ program_changes plant (state_of plant h) (state_of plant g) l.answer l.k
