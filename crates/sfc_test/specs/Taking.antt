-- What is cited of cases that are taken one after the other.
use Rattle.std.specs.Prelude.{◌≡◌, ℕ, List, ◌++◌, Option, Result, Ok, Err}
use Rattle.std.specs.Io.KnownBytes.{Appends}
use Rattle.sfc_base.specs.Writing.{AppendsFront}
use Rattle.sfc_replay.specs.Reading.{Device}
use Rattle.sfc_replay.specs.declared.replay_error.ReplayError.{ReplayError}
use Rattle.sfc_replay.specs.declared.replay_error.ReplayError.TheVariants.{Write, Memory}
use Rattle.sfc_replay.specs.sfc_debug.Steered.{Steered}
use Rattle.sfc_test.specs.declared.suite.Job.{Job}
use Rattle.sfc_test.specs.Answers.{TellsCases, Wish, wish}
use Rattle.sfc_test.specs.Cases.{TitledCase, wanted}
use Rattle.sfc_test.specs.Tallies.{Tally}

abbrev pub wish_of : Job → Wish
wish_of job = wish job.source.file.name.now job.choice

-- these cases are told, those that are wanted
abbrev pub TellsWanted : Wish → Steered → List TitledCase → Tally → Tally → List ℕ → Type 0
TellsWanted wish steered cases old new text = TellsCases steered wish.file wish.asked (wanted wish.word cases) old new text

-- Of all the cases those are left; the others are told.
pub record IsUnderWay (wish : Wish) (steered : Steered) (all left : List TitledCase) (old now : Tally) (before behind : Option (List ℕ)) : Type 0 where
  pub done : List TitledCase
  pub text : List ℕ
  pub split : all ≡ done ++ left
  pub told : TellsWanted wish steered done old now text
  pub written : Appends before behind text

-- A front of what is told was written.
abbrev pub BreaksOff : Wish → Steered → List TitledCase → Tally → Device → Type 0
BreaksOff wish steered cases old w =
    (text : List ℕ) × (later : Tally) × TellsWanted wish steered cases old later text × AppendsFront w.0 w.1 text

abbrev pub Takes : Wish → Steered → List TitledCase → Tally → Tally → Device → {X : Type 0} → Result X ReplayError → Type 0
Takes wish steered cases old new w (Ok done) = (text : List ℕ) × TellsWanted wish steered cases old new text × Appends w.0 w.1 text
Takes wish steered cases old new w (Err Write) = BreaksOff wish steered cases old w
Takes wish steered cases old new w (Err Memory) = BreaksOff wish steered cases old w
Takes wish steered cases old new w (Err _) = ⊥
