use Rattle.std.proofs.Common.{◌≡◌, ◌+◌, length}
use Rattle.sfc_control.specs.Closing.{all_calls}
use Rattle.sfc_control.proofs.close.settle.Given as goal

abbrev pub invariant-loop-seat : goal.invariant-loop-seat
invariant-loop-seat g l =
    (l.all.parts + length l.seats.items ≡ g.L.Ledger.parts) × (l.all.amount + all_calls l.seats.items ≡ all_calls l.fn.seats.items)

abbrev pub decreases-loop-seat : goal.decreases-loop-seat
decreases-loop-seat g l = goal.left-loop-seat g l
