use Rattle.std.proofs.Common.{length}
use Rattle.sfc_frames.specs.Serving.{Puts}
use Rattle.sfc_wire.specs.RpcAnswered.{AreCalls}
use Rattle.sfc_lsp.proofs.putting.put_published.Given as goal

abbrev pub invariant-all : goal.invariant-all
invariant-all l = Puts l.fn.outbox l.outbox AreCalls

abbrev pub decreases-all : goal.decreases-all
decreases-all l = length l.left.items
