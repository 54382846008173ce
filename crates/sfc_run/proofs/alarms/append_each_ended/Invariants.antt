use Rattle.std.proofs.Common.{◌≡◌, ◌++◌}
use Rattle.sfc_events.specs.History.{History}
use Rattle.sfc_control.specs.sfc_debug.sfc_core.Agreement.{Agrees, plant_of}
use Rattle.sfc_control.specs.sfc_debug.sfc_core.PlantState.{state_of}
use Rattle.sfc_run.specs.Alarms.{ended_lines}
use Rattle.sfc_run.proofs.alarms.append_each_ended.Given as goal

abbrev pub invariant-loop-k : goal.invariant-loop-k
invariant-loop-k l = (h : History) → Agrees l.resource h →
    l.out.items ≡ l.initial.out.items ++ ended_lines (plant_of l.resource) (state_of (plant_of l.resource) h).instance_state l.faulted l.k
