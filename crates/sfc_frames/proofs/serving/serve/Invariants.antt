use Rattle.std.specs.Io.KnownBytes.{prepend_known}
use Rattle.sfc_frames.specs.Serving.{IsServed}
use Rattle.sfc_frames.specs.declared.serving.Flow.TheVariants.{GoesOn}
use Rattle.sfc_frames.proofs.serving.serve.Given as goal

-- so far
abbrev pub invariant-messages : goal.invariant-messages
invariant-messages g l = IsServed g.A.Answering.tells (prepend_known l.initial.incoming (g.R.Read.remaining l.initial.reader)) (prepend_known l.incoming (g.R.Read.remaining l.reader))
    (g.W.Write.contents l.initial.writer) (g.W.Write.contents l.writer) l.initial.answering GoesOn l.answering
