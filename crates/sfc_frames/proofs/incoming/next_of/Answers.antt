use Rattle.std.specs.Io.KnownBytes.{prepend_known}
use Rattle.sfc_frames.proofs.Pieces.{takes_message}
use Rattle.sfc_frames.proofs.incoming.next_of.Goals as goal

pub returns-in-Some-clause-message : goal.returns-in-Some-clause-message
returns-in-Some-clause-message g c = takes_message (prepend_known c.args.held.now.items (g.R.Read.remaining c.args.reader.now)) (g.R.Read.remaining c.pieces.reader)
    c.pieces.held.items c.cut.new.held.items c.in-Some.message c.pieces.invariant (rw c.in-Some.is at c.in_ok-message.ensures)
