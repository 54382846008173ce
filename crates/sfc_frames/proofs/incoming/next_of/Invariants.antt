use Rattle.std.specs.Io.KnownBytes.{Keeps, prepend_known}
use Rattle.sfc_frames.proofs.incoming.next_of.Given as goal

-- the stream is as it was
abbrev pub invariant-pieces : goal.invariant-pieces
invariant-pieces g l = Keeps (prepend_known l.initial.held.items (g.R.Read.remaining l.initial.reader)) (prepend_known l.held.items (g.R.Read.remaining l.reader))
