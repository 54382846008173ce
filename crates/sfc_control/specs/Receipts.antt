-- Receipts, and whether they stand in a list of entries, the oldest first.
use Rattle.std.specs.Prelude.{ℕ, ◌≡◌, ◌-◌, ◌<◌, ◌≤◌, List, ℤ, slice_get, Some}
use Rattle.sfc_events.specs.declared.command.Command.{Command}
use Rattle.sfc_control.specs.declared.entry.Entry.{Entry}
use Rattle.sfc_control.specs.declared.receipt.Receipt.{Receipt}
use Rattle.sfc_control.specs.Holding.{first_in}

abbrev pub entry_of : Receipt → Entry
entry_of r = record { seat = r.seat; command = r.command; raw = r.raw; answer = r.answer }

abbrev pub receipt_of : ℕ → Entry → Receipt
receipt_of index e = record { seat = e.seat; index = index; command = e.command; raw = e.raw; answer = e.answer }

-- what the seat asked, and when
abbrev pub IsReceiptOf : Receipt → ℕ → Command → ℤ → Type 0
IsReceiptOf r seat command raw = (r.seat ≡ seat) × (r.command ≡ command) × (r.raw ≡ raw)

-- the entry at its index is the receipt's
abbrev pub IsAt : List Entry → Receipt → Type 0
IsAt es r = slice_get es (r.index - 1) ≡ Some (entry_of r)

-- A receipt from before the cut isn't compared; any other stands where its entry is at its index. The entries are all that were ever
-- accepted.
abbrev pub Stands : List Entry → Receipt → Type 0
Stands es r = (0 < r.index) × (first_in es ≤ r.index → IsAt es r)
