use Rattle.std.proofs.lemmas.Result.{err_from_is_err_and}
use Rattle.std.specs.Prelude.{codes, length, ◌++◌}
use Rattle.sfc_base.proofs.Written.{front_first}
use Rattle.sfc_frames.specs.Frames.{frame, length_field}
use Rattle.sfc_frames.proofs.outgoing.put_frame.Goals as goal

pub returns-in_err-put_length : goal.returns-in_err-put_length
unfolding frame
returns-in_err-put_length g c =
    let fault = err_from_is_err_and c.from_residual.result c.from_residual.ensures.1 in
    rw fault.1 (front_first (g.W.Write.contents c.args.writer.now) (g.W.Write.contents c.put_length.new.writer) (length_field (length c.args.message.now)) (codes "\r\n\r\n" ++ c.args.message.now) c.in_err-put_length.ensures)
