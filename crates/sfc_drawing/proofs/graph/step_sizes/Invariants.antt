use Rattle.std.proofs.Common.{◌≡◌, vec_len}
use Rattle.sfc_drawing.proofs.graph.step_sizes.Given as goal

abbrev pub invariant-loop-step : goal.invariant-loop-step
invariant-loop-step l = vec_len l.sizes ≡ l.step-index
