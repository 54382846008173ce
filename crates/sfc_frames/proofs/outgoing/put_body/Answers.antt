use Rattle.std.proofs.lemmas.Result.{err_from_is_err_and}
use Rattle.std.specs.Prelude.{codes}
use Rattle.sfc_base.proofs.Written.{front_first}
use Rattle.sfc_frames.proofs.outgoing.put_body.Goals as goal

pub returns-in_err-put_all : goal.returns-in_err-put_all
returns-in_err-put_all g c =
    let fault = err_from_is_err_and c.from_residual.result c.from_residual.ensures.1 in
    rw fault.1 (front_first (g.W.Write.contents c.args.writer.now) (g.W.Write.contents c.put_all.new.writer) (codes "\r\n\r\n") (c.args.message.now) c.in_err-put_all.ensures)
