-- What contracts see of a seat.
use Rattle.std.specs.Prelude.{ℕ, ◌≡◌, ◌<◌, ◌+◌, List, [], ◌∷◌, ◌++◌, ℤ, Option, None, IfSome, Result, Ok, Err, IfOk}
use Rattle.std.specs.Prelude.{length, max, slice_index_or}
use Rattle.sfc_plant.specs.Plants.{PlantData}
use Rattle.sfc_events.specs.declared.command.Command.{Command}
use Rattle.sfc_events.specs.declared.refusal.Refusal.{Refusal}
use Rattle.sfc_debug.specs.declared.break_condition.BreakCondition.{BreakCondition}
use Rattle.sfc_control.specs.declared.call_error.CallError.{CallError}
use Rattle.sfc_control.specs.declared.call_error.CallError.TheVariants.{Refused, AuditMismatch}
use Rattle.sfc_control.specs.declared.entry.Entry.{Entry}
use Rattle.sfc_control.specs.declared.given.AcceptedCall.{AcceptedCall}
use Rattle.sfc_control.specs.declared.receipt.Receipt.{Receipt}
use Rattle.sfc_control.specs.declared.seat.Seat.{Seat}
use Rattle.sfc_control.specs.Answering.{answered}
use Rattle.sfc_control.specs.Holding.{first_after, first_in}
use Rattle.sfc_control.specs.LegalHistory.{IsLegal}
use Rattle.sfc_control.specs.Receipts.{entry_of, Stands}

module _ {X : Type 0} where
  abbrev pub number : Seat X → ℕ
  number seat = seat.number

  -- how many of its calls were accepted
  abbrev pub calls : Seat X → ℕ
  calls seat = seat.calls

  -- the receipt of the latest of them
  abbrev pub last_receipt : Seat X → Option Receipt
  last_receipt seat = seat.last

  -- the index of the first entry that was held when it was given; 0 where there is none
  abbrev pub first_held : Seat X → ℕ
  first_held seat = seat.first

  -- those that were accepted, the oldest first, each with its receipt
  abbrev pub given : Seat X → List AcceptedCall
  given seat = seat.given.calls

  -- its part of the ledger
  abbrev pub parts : Seat X → ℕ
  parts seat = seat.share.parts

-- a refusal of the book is one of the call
abbrev pub called : Result Receipt Refusal → Result Receipt CallError
called (Ok receipt) = Ok receipt
called (Err refusal) = Err (Refused refusal)

-- the receipt, if there is one, stands among the entries
abbrev pub KeptStands : Option Receipt → List Entry → Type 0
KeptStands last es = IfSome last (Stands es)

-- What a call answers after these entries: a mismatch where the last receipt doesn't stand, else the book's answer.
abbrev pub IsEntered : PlantData → List BreakCondition → ℕ → Option Receipt → ℕ → List Entry → Command → ℤ →
    Result Receipt CallError → Type 0
IsEntered plant table limit last number es command raw answer =
    ((KeptStands last es → ⊥) → answer ≡ Err AuditMismatch)
    × (KeptStands last es → answer ≡ called (answered plant table limit es number command raw))

-- An accepted call after these entries stands behind those before it, with its receipt and where the history is cut behind its entry. A
-- refused one leaves them.
abbrev pub Puts : List Entry → Command → List AcceptedCall → List AcceptedCall → Result Receipt CallError → Type 0
Puts es command old new (Ok receipt) =
    new ≡ old ++ record { receipt = receipt; cut = first_after command (first_in es) receipt.index } ∷ []
Puts es command old new (Err error) = new ≡ old

-- What a call does after these entries, which are legal: what it answers, and what the seat keeps of it.
pub record IsCalled {X : Type 0} (plant : PlantData) (table : List BreakCondition) (limit : ℕ) (es : List Entry)
    (command : Command) (raw : ℤ) (old new : Seat X) (answer : Result Receipt CallError) : Type 0 where
  pub legal : IsLegal plant table es
  pub answered : IsEntered plant table limit (last_receipt old) (number old) es command raw answer
  pub put : Puts es command (given old) (given new) answer
  pub held : IfOk answer (λ receipt. first_held new ≡ max (first_held old) (first_after command (first_in es) receipt.index))

-- One legal history has both: the later receipt's entry is the next one behind others, among which the earlier one stands, unless it is
-- from before their cut. The later one's index is higher.
abbrev pub BothStand : PlantData → List BreakCondition → Option Receipt → Receipt → Type 0
BothStand plant table last receipt =
    (es : List Entry) × IsLegal plant table (es ++ entry_of receipt ∷ []) × (receipt.index ≡ length es + 1)
    × IfSome last (λ earlier. Stands es earlier × (earlier.index < receipt.index))

-- a seat that has called nothing
abbrev pub IsFresh : {X : Type 0} → Seat X → ℕ → Type 0
IsFresh seat number = (seat.number ≡ number) × (seat.calls ≡ 0) × (seat.last ≡ None) × (seat.given.calls ≡ [])

-- the seats 0, 1, .. below n, which have called nothing
abbrev pub AreFresh : {X : Type 0} → ℕ → List (Seat X) → Type 0
AreFresh {X} n seats = (length seats ≡ n) × ((k : ℕ) (d : Seat X) → k < n → IsFresh (slice_index_or seats k d) k)
