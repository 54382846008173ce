-- Epochs of a seat, and then more.
use Rattle.std.proofs.Common.{◌≡◌, List, [], ◌∷◌, ◌++◌, refl, sym, ap, ◌∙◌, append_assoc, append-nil}
use Rattle.sfc_control.specs.declared.receipt.Receipt.{Receipt}
use Rattle.sfc_control.specs.Seats.{number}
use Rattle.sfc_run.specs.Keeping.{AreEpochsOf, Cuts}
use Rattle.sfc_run.specs.declared.console.Console.{Console}

module _ {X C : Type 0} where
  pub cuts_none : (keeper : Console X C) → Cuts keeper keeper
  cuts_none keeper = record { number = refl; epochs = []; kept = sym (append-nil keeper.receipts.items); each = tt }

  epochs_then : (old mid : Console X C) (a b : List Receipt) → number mid.seat ≡ number old.seat
      → AreEpochsOf old a → AreEpochsOf mid b → AreEpochsOf old (a ++ b)
  epochs_then old mid [] [] same one two = tt
  epochs_then old mid [] (r ∷ b) same one (is, two) = ((is.0 ∙ same, is.1), epochs_then old mid [] b same one two)
  epochs_then old mid (r ∷ a) b same (is, one) two = (is, epochs_then old mid a b same one two)

  pub cuts_then : (old mid new : Console X C) → Cuts old mid → Cuts mid new → Cuts old new
  cuts_then old mid new one two = record {
    number = two.number ∙ one.number;
    epochs = one.epochs ++ two.epochs;
    kept = two.kept ∙ ap (λ (l : List Receipt). l ++ two.epochs) one.kept ∙ append_assoc old.receipts.items one.epochs two.epochs;
    each = epochs_then old mid one.epochs two.epochs one.number one.each two.each;
  }
