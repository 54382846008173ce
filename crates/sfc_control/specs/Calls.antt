-- The accepted calls of a seat, the oldest first.
use Rattle.std.specs.Prelude.{ℕ, List, [], ◌∷◌, map, max, Option, Some, None}
use Rattle.sfc_control.specs.declared.given.AcceptedCall.{AcceptedCall}
use Rattle.sfc_control.specs.declared.receipt.Receipt.{Receipt}

abbrev pub receipts_of : List AcceptedCall → List Receipt
receipts_of calls = map (λ call. call.receipt) calls

-- the receipt of the last one, or else that one
abbrev pub last_or : Option Receipt → List AcceptedCall → Option Receipt
last_or receipt [] = receipt
last_or receipt (call ∷ calls) = last_or (Some call.receipt) calls

abbrev pub last_of : List AcceptedCall → Option Receipt
last_of calls = last_or None calls

-- the greatest of the cuts; 0 without one
abbrev pub latest_cut : List AcceptedCall → ℕ
latest_cut [] = 0
latest_cut (call ∷ calls) = max call.cut (latest_cut calls)
