use Rattle.std.proofs.Common.{ap}
use Rattle.std.proofs.lemmas.Result.{err_from_is_err_and}
use Rattle.std.specs.List.{flat_map}
use Rattle.sfc_base.proofs.Written.{UpTo-more}
use Rattle.sfc_frames.specs.Frames.{frame}
use Rattle.sfc_frames.specs.Private.Texts.{texts}
use Rattle.sfc_frames.proofs.Sending.{UpTo-fault}
use Rattle.sfc_frames.proofs.outbox.put_messages.Goals as goal

pub returns-in_err-put_message : goal.returns-in_err-put_message
returns-in_err-put_message g c =
    let fault = err_from_is_err_and c.from_residual.result c.from_residual.ensures.1 in
    rw fault.1 (UpTo-fault (g.W.Write.contents c.args.writer.now) (g.W.Write.contents c.messages.writer) (g.W.Write.contents c.put_message.new.writer)
    (flat_map frame (texts c.args.messages.now)) (flat_map frame (texts c.messages.rest.now)) (frame c.in-Some.message.now.items) (flat_map frame (texts c.in-Some.behind.now))
    c.messages.invariant (ap (λ messages. flat_map frame (texts messages)) c.in-Some.ensures.cases.0) (rw c.deref.ensures.value at c.in_err-put_message.ensures.frame))

pub messages-preserved : goal.messages-preserved
messages-preserved g c =
    UpTo-more (g.W.Write.contents c.args.writer.now) (g.W.Write.contents c.messages.writer) (g.W.Write.contents c.put_message.new.writer)
    (flat_map frame (texts c.args.messages.now)) (flat_map frame (texts c.messages.rest.now)) (frame c.in-Some.message.now.items) (flat_map frame (texts c.in-Some.behind.now))
    c.messages.invariant (ap (λ messages. flat_map frame (texts messages)) c.in-Some.ensures.cases.0) (rw c.deref.ensures.value at c.in_ok-put_message.ensures.frame)
