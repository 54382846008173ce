-- What is found at the close.
use Rattle.std.specs.Prelude.{ℕ, ◌≡◌, ◌⊎◌, ◌<◌, List, All, slice_index_or, slice_get, Some, sum_by}
use Rattle.sfc_control.specs.declared.entry.Entry.{Entry}
use Rattle.sfc_control.specs.declared.receipt.Receipt.{Receipt}
use Rattle.sfc_control.specs.declared.seat.Seat.{Seat}
use Rattle.sfc_control.specs.Holding.{calls_in}
use Rattle.sfc_control.specs.Receipts.{Stands}

-- P of each item in front of k
abbrev pub AllBefore : {T : Type 0} → (T → Type 0) → List T → ℕ → Type 0
AllBefore {T} P xs k = (j : ℕ) (d : T) → j < k → P (slice_index_or xs j d)

-- x stands at k, and is the first of the list without P
abbrev pub IsFirstNot : {T : Type 0} → (T → Type 0) → List T → ℕ → T → Type 0
IsFirstNot P xs k x = AllBefore P xs k × (slice_get xs k ≡ Some x) × (P x → ⊥)

module _ {X : Type 0} where
  -- the seat's count is the number of entries under its number, also of those that were dropped
  abbrev pub CountsRight : List Entry → Seat X → Type 0
  CountsRight es seat = seat.calls ≡ calls_in es seat.number

  -- each receipt stands, and each seat's count is right
  abbrev pub AllRight : List Entry → List (Seat X) → List Receipt → Type 0
  AllRight es seats receipts = All (Stands es) receipts × All (CountsRight es) seats

  -- the first seat whose count is wrong
  abbrev pub IsFirstMiscounted : List Entry → List (Seat X) → ℕ → Type 0
  IsFirstMiscounted es seats number =
      (k : ℕ) × (seat : Seat X) × IsFirstNot (CountsRight es) seats k seat × (seat.number ≡ number)

  -- the first receipt that doesn't stand, or else with index 0 the first seat whose count is wrong
  abbrev pub IsFirstWrong : List Entry → List (Seat X) → List Receipt → ℕ → ℕ → Type 0
  IsFirstWrong es seats receipts number index =
      ((k : ℕ) × (receipt : Receipt) × IsFirstNot (Stands es) receipts k receipt ×
      (receipt.seat ≡ number) × (receipt.index ≡ index))
      ⊎ (All (Stands es) receipts × IsFirstMiscounted es seats number × (index ≡ 0))

  abbrev pub all_calls : List (Seat X) → ℕ
  all_calls seats = sum_by (λ seat. seat.calls) seats
