use Rattle.std.proofs.Common.{◌-◌, length, arith}
use Rattle.sfc_page.proofs.Overlaps.{overlapped}
use Rattle.sfc_page.proofs.pieces.copy_below_four.Goals as goal

pub returns-then-length-ge2 : goal.returns-then-length-ge2
returns-then-length-ge2 c =
    overlapped c.args.bytes.now c.copy_two.new.bytes c.copy_two-then-length-ge2.new.bytes c.args.text.now c.args.count 2 (length c.args.text.now - 2)
    (omega arith) (omega arith) (omega arith) (omega arith) c.copy_two.ensures c.copy_two-then-length-ge2.ensures
