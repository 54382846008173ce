use Rattle.std.proofs.Common.{◌-◌, length, arith}
use Rattle.sfc_page.proofs.Overlaps.{overlapped}
use Rattle.sfc_page.proofs.pieces.copy_fours.Goals as goal

pub returns : goal.returns
returns c =
    overlapped c.args.bytes.now c.copy_four.new.bytes c.copy_four-2.new.bytes c.args.text.now c.args.count 4 (length c.args.text.now - 4)
    (omega arith) (omega arith) (omega arith) (omega arith) c.copy_four.ensures c.copy_four-2.ensures
