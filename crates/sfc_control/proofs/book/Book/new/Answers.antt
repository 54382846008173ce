use Rattle.sfc_debug.specs.Agreement.{plant_of, table_of}
use Rattle.sfc_control.specs.Histories.{whole, first_of}
use Rattle.sfc_control.proofs.Cutting.{opened_new}
use Rattle.sfc_control.proofs.book.Book.new.Goals as goal

pub invariant_of-book-clause-agrees : goal.invariant_of-book-clause-agrees
invariant_of-book-clause-agrees c = rw c.in_ok-history.ensures.whole (∣ c.requires ∣₁)

pub invariant_of-book-clause-opened : goal.invariant_of-book-clause-opened
invariant_of-book-clause-opened c =
    opened_new (plant_of c.args.debugger) (table_of c.args.debugger) c.in_ok-opening.opening (first_of c.in_ok-history.history)
    (whole c.in_ok-history.history) c.in_ok-history.ensures.first c.in_ok-history.ensures.whole c.in_ok-opening.ensures.empty
