use Rattle.std.proofs.Common.{◌≡◌, vec_len}
use Rattle.sfc_drawing.proofs.graph.transition_sizes.Given as goal

abbrev pub invariant-loop-place : goal.invariant-loop-place
invariant-loop-place l = vec_len l.sizes ≡ l.place
