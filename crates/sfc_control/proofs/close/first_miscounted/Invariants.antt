use Rattle.sfc_control.specs.Closing.{CountsRight, AllBefore}
use Rattle.sfc_control.specs.Books.{accepted}
use Rattle.sfc_control.proofs.close.first_miscounted.Given as goal

abbrev pub invariant-loop-seat : goal.invariant-loop-seat
invariant-loop-seat g l = AllBefore (CountsRight (accepted l.book)) l.seats l.seat-index
