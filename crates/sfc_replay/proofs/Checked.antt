-- Where the checking of a chart ends.
use Rattle.std.proofs.Common.{◌≡◌, ℕ, List, Result, Ok, Err, refl, sym, subst}
use Rattle.sfc_events.specs.declared.read_error.ReadError.{ReadError}
use Rattle.sfc_events.specs.declared.read_error.ReadErrorKind.{ReadErrorKind}
use Rattle.sfc_events.specs.declared.read_error.ReadErrorKind.TheVariants as kind
use Rattle.sfc_tokens.specs.Texts.{FindsError}
use Rattle.sfc_text.specs.Reads.{TextReads}
use Rattle.sfc_text.specs.Trees.{SourceTree}
use Rattle.sfc_events.specs.declared.load_error.LoadError.{LoadError}
use Rattle.sfc_events.specs.declared.load_error.LoadError.TheVariants as load
use Rattle.sfc_script.specs.sfc_variables.Checks.{Fails}
use Rattle.sfc_script.specs.sfc_load.Built.{source_check}
use Rattle.sfc_replay.specs.declared.replay_error.ReplayError.{ReplayError}
use Rattle.sfc_replay.specs.declared.replay_error.ReplayError.TheVariants.{Chart, Script, Read, Write, Memory}
use Rattle.sfc_replay.specs.ReplayErrors.{of_read, of_kind, of_load}
use Rattle.sfc_replay.specs.Reading.{Device, IsUntouched, TakesAtMost, LosesAtMost}
use Rattle.sfc_plant.specs.Plants.{PlantData}
use Rattle.sfc_script.specs.sfc_load.Accepted.{IsAccepted}
use Rattle.sfc_replay.specs.Acceptance.{Accepts, Answers, most}
use Rattle.sfc_replay.specs.Working.Telling.{Checks, IsWritten}
use Rattle.sfc_replay.specs.Working.Faults.{IsInputFault}

pub read_refused : (text : List ℕ) (error : ReadError) → FindsError error.kind (λ outcome. TextReads text outcome)
    → Accepts text (Err (of_read error))
read_refused text error found = by error.kind refl found
  where
    by : (k : ReadErrorKind) → error.kind ≡ k → FindsError k (λ outcome. TextReads text outcome) → Accepts text (Err (of_kind k error))
    by kind.Memory e h = tt
    by k e h = subst (λ k. TextReads text (Err k)) (sym e) h

pub load_refused : (text : List ℕ) (tree : SourceTree) (error : LoadError) → TextReads text (Ok tree) → Fails error (source_check tree)
    → Accepts text (Err (of_load error))
load_refused text tree load.Memory read fails = tt
load_refused text tree error read fails = (tree, read, fails)

module _ (output : PlantData → List ℕ) where
  -- the chart wasn't taken whole
  pub unread : (chart w : Device) (error : ReplayError) → IsInputFault error → LosesAtMost most chart → IsUntouched w
      → Answers output chart w {X = Unit {0}} (Err error)
  unread chart w (Chart e) h lost unwritten = absurd h
  unread chart w (Script n) h lost unwritten = absurd h
  unread chart w Read h lost unwritten = (lost, unwritten)
  unread chart w Write h lost unwritten = absurd h
  unread chart w Memory h lost unwritten = (lost, unwritten)

  -- the chart was taken, and is refused
  pub refused : (chart w : Device) (text : List ℕ) (error : ReplayError) → TakesAtMost most chart text → LosesAtMost most chart
      → IsUntouched w → Checks text {X = Unit {0}} (Err error) → Answers output chart w {X = Unit {0}} (Err error)
  refused chart w text (Chart e) taken lost unwritten h = ((text, taken, h), unwritten)
  refused chart w text (Script n) taken lost unwritten h = absurd h
  refused chart w text Read taken lost unwritten h = absurd h
  refused chart w text Write taken lost unwritten h = absurd h
  refused chart w text Memory taken lost unwritten h = (lost, unwritten)

  -- the chart was taken, and is told of
  pub written : (chart w : Device) (text : List ℕ) (plant : PlantData) (r : Result (Unit {0}) ReplayError) → TakesAtMost most chart text
      → IsAccepted text plant → IsWritten w (output plant) r → Answers output chart w r
  written chart w text plant (Ok done) taken accepted h = (text, taken, (plant, accepted, h))
  written chart w text plant (Err Write) taken accepted h = (text, taken, (plant, accepted, h))
  written chart w text plant (Err (Chart e)) taken accepted h = absurd h
  written chart w text plant (Err (Script n)) taken accepted h = absurd h
  written chart w text plant (Err Read) taken accepted h = absurd h
  written chart w text plant (Err Memory) taken accepted h = absurd h

-- a text that isn't accepted is refused alike
pub alike : (text : List ℕ) (error : ReplayError) → Accepts text (Err error) → Checks text {X = Unit {0}} (Err error)
alike text (Chart e) h = h
alike text Memory h = tt
alike text (Script n) h = absurd h
alike text Read h = absurd h
alike text Write h = absurd h
