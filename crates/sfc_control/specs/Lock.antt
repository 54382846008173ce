-- What contracts see of what lies under the lock.
use Rattle.std.specs.Prelude.{ℕ}
use Rattle.sfc_control.specs.declared.book.Book.{Book}
use Rattle.sfc_control.specs.declared.locked.Locked.{Locked}
use Rattle.sfc_control.specs.declared.opened_with.OpenedWith.{Ghosts}

module _ {X : Type 0} {g : Ghosts X} where
  abbrev pub book_of : Locked X g → Book
  book_of locked = locked.book

  -- the ledger's total
  abbrev pub total_of : Locked X g → ℕ
  total_of locked = locked.total.total
