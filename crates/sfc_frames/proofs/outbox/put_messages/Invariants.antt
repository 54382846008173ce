use Rattle.std.proofs.Common.{length}
use Rattle.sfc_base.proofs.Written.{UpTo}
use Rattle.std.specs.List.{flat_map}
use Rattle.sfc_frames.specs.Frames.{frame}
use Rattle.sfc_frames.specs.Private.Texts.{texts}
use Rattle.sfc_frames.proofs.outbox.put_messages.Given as goal

abbrev pub invariant-messages : goal.invariant-messages
invariant-messages g l = UpTo (g.W.Write.contents l.initial.writer) (g.W.Write.contents l.writer) (flat_map frame (texts l.messages)) (flat_map frame (texts l.rest))

abbrev pub decreases-messages : goal.decreases-messages
decreases-messages g l = length l.rest
