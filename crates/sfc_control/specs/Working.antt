-- What a worker's receipts are.
use Rattle.std.specs.Prelude.{ℕ, ◌≡◌, ◌<◌, nat_le, List, [], ◌∷◌, ◌++◌, All, filter, Option, Some, None, ⊤}
use Rattle.sfc_base.specs.declared.ids.TaskId.{TaskId}
use Rattle.sfc_events.specs.declared.command.Command.TheVariants.{Scan}
use Rattle.sfc_control.specs.declared.given.AcceptedCall.{AcceptedCall}
use Rattle.sfc_control.specs.declared.receipt.Receipt.{Receipt}
use Rattle.sfc_control.specs.Calls.{last_of, receipts_of}

-- a scan of the task, from the seat
abbrev pub IsScanOf : ℕ → TaskId → Receipt → Type 0
IsScanOf number task receipt = (receipt.seat ≡ number) × (receipt.command ≡ Scan task)

abbrev pub last_index : Option Receipt → ℕ
last_index None = 0
last_index (Some receipt) = receipt.index

-- the indices rise, from above low on
abbrev pub Rise : ℕ → List Receipt → Type 0
Rise low [] = ⊤
Rise low (receipt ∷ receipts) = (low < receipt.index) × Rise receipt.index receipts

abbrev pub index_after : ℕ → List Receipt → ℕ
index_after low [] = low
index_after low (receipt ∷ receipts) = index_after receipt.index receipts

-- those from the first entry on that is held
abbrev pub held_from : ℕ → List Receipt → List Receipt
held_from first receipts = filter (λ receipt. nat_le first receipt.index) receipts

-- What a worker keeps of the calls of its seat that were accepted since those before: each is a scan of the task, with rising indices. The
-- receipts from before the first entry that is held are let go, since nothing compares them, and all others are kept.
pub record Receives (number : ℕ) (task : TaskId) (before after : List AcceptedCall) (first : ℕ) (kept : List Receipt) : Type 0 where
  pub more : List AcceptedCall
  pub behind : after ≡ before ++ more
  pub scans : All (IsScanOf number task) (receipts_of more)
  pub rising : Rise (last_index (last_of before)) (receipts_of more)
  pub held : kept ≡ held_from first (receipts_of more)
