use Rattle.sfc_control.specs.Receipts.{Stands}
use Rattle.sfc_control.specs.Closing.{AllBefore}
use Rattle.sfc_control.specs.Books.{accepted}
use Rattle.sfc_control.proofs.close.first_fallen.Given as goal

abbrev pub invariant-loop-receipt : goal.invariant-loop-receipt
invariant-loop-receipt l = AllBefore (Stands (accepted l.book)) l.receipts l.receipt-index
