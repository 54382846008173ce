-- The epochs of a run itself.
use Rattle.std.specs.Prelude.{◌≡◌, ⊤, List, [], ◌∷◌, ◌++◌}
use Rattle.sfc_events.specs.declared.command.Command.TheVariants.{Epoch}
use Rattle.sfc_control.specs.declared.receipt.Receipt.{Receipt}
use Rattle.sfc_control.specs.Seats.{number}
use Rattle.sfc_run.specs.declared.console.Console.{Console}

module _ {X C : Type 0} where
  -- the receipt of an epoch of the seat
  abbrev pub IsEpochOf : Console X C → Receipt → Type 0
  IsEpochOf keeper receipt = (receipt.seat ≡ number keeper.seat) × (receipt.command ≡ Epoch)

  abbrev pub AreEpochsOf : Console X C → List Receipt → Type 0
  AreEpochsOf keeper [] = ⊤
  AreEpochsOf keeper (receipt ∷ receipts) = IsEpochOf keeper receipt × AreEpochsOf keeper receipts

  -- Epochs alone were accepted, and their receipts are kept behind the others.
  pub record Cuts (old new : Console X C) : Type 0 where
    pub number : number new.seat ≡ number old.seat
    pub epochs : List Receipt
    pub kept : new.receipts.items ≡ old.receipts.items ++ epochs
    pub each : AreEpochsOf old epochs
