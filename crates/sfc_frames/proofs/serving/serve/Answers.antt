use Rattle.std.specs.Io.KnownBytes.{prepend_known}
use Rattle.sfc_frames.specs.declared.serving.Flow.TheVariants.{Ends, GoesOn}
use Rattle.sfc_frames.proofs.Served.{served_more}
use Rattle.sfc_frames.proofs.serving.serve.Goals as goal

pub returns-in-Ends-clause-served : goal.returns-in-Ends-clause-served
returns-in-Ends-clause-served g c =
    served_more g.A.Answering.tells (prepend_known c.args.incoming.now (g.R.Read.remaining c.args.reader.now)) (prepend_known c.messages.incoming (g.R.Read.remaining c.messages.reader))
    (prepend_known c.next_message.new.self (g.R.Read.remaining c.next_message.new.reader)) (g.W.Write.contents c.args.writer.now) (g.W.Write.contents c.messages.writer)
    (g.W.Write.contents c.answer.new.writer) c.args.answering.now c.messages.answering Ends c.answer.new.answering c.in-Some.message
    c.messages.invariant (rw c.in-Some.is at c.in_ok-message.ensures.message) (rw (c.deref.ensures.value, c.in-Ends.is) at c.in_ok-answer.ensures.told)

pub messages-preserved : goal.messages-preserved
messages-preserved g c =
    served_more g.A.Answering.tells (prepend_known c.args.incoming.now (g.R.Read.remaining c.args.reader.now)) (prepend_known c.messages.incoming (g.R.Read.remaining c.messages.reader))
    (prepend_known c.next_message.new.self (g.R.Read.remaining c.next_message.new.reader)) (g.W.Write.contents c.args.writer.now) (g.W.Write.contents c.messages.writer)
    (g.W.Write.contents c.answer.new.writer) c.args.answering.now c.messages.answering GoesOn c.answer.new.answering c.in-Some.message
    c.messages.invariant (rw c.in-Some.is at c.in_ok-message.ensures.message) (rw (c.deref.ensures.value, c.in-GoesOn.is) at c.in_ok-answer.ensures.told)
