use Rattle.std.proofs.Common.{◌-◌, length, arith}
use Rattle.sfc_page.proofs.Overlaps.{overlapped}
use Rattle.sfc_page.proofs.pieces.copy_eights.Goals as goal

pub returns : goal.returns
returns c =
    overlapped c.args.bytes.now c.copy_eight.new.bytes c.copy_eight-2.new.bytes c.args.text.now c.args.count 8 (length c.args.text.now - 8)
    (omega arith) (omega arith) (omega arith) (omega arith) c.copy_eight.ensures c.copy_eight-2.ensures
