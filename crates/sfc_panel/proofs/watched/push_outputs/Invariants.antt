use Rattle.std.proofs.Common.{◌≡◌, ◌++◌}
use Rattle.sfc_output.specs.sfc_core.Agreement.{plant_of}
use Rattle.sfc_panel.specs.Watched.{outputs_to}
use Rattle.sfc_panel.proofs.watched.push_outputs.Given as goal

abbrev pub invariant-loop-k : goal.invariant-loop-k
invariant-loop-k l = l.ids.items ≡ l.initial.ids.items ++ outputs_to (plant_of l.resource) l.k
