-- Tests that are opened, and run.
use Rattle.std.proofs.Common.{◌≡◌, ℕ, List, Result, Ok, Err, refl, inl, inr, sym, ap, subst}
use Rattle.sfc_cases.specs.Answers.{ReadsTests}
use Rattle.sfc_cases.specs.Files.{file_of}
use Rattle.sfc_cases.specs.declared.test_file.TestFile.{TestFile}
use Rattle.sfc_replay.specs.sfc_script.declared.script.ScriptError.{ScriptError}
use Rattle.sfc_replay.specs.sfc_script.declared.script.ScriptError.TheVariants as script
use Rattle.sfc_judge.specs.Running.Benches.{steered_in}
use Rattle.sfc_plant.specs.Plants.{PlantData}
use Rattle.sfc_replay.specs.ReplayErrors.{of_script}
use Rattle.sfc_replay.specs.sfc_load.Accepted.{IsAccepted}
use Rattle.sfc_cases.specs.declared.line.Line.{Line}
use Rattle.sfc_replay.specs.Acceptance.{Accepts, most}
use Rattle.sfc_replay.specs.Reading.{Device, IsUntouched, LosesAtMost, TakesAtMost}
use Rattle.sfc_replay.specs.Working.Faults.{IsInputFault}
use Rattle.sfc_replay.specs.declared.replay_error.ReplayError.{ReplayError}
use Rattle.sfc_replay.specs.declared.replay_error.ReplayError.TheVariants.{Chart, Script, Read, Write, Memory}
use Rattle.sfc_replay.specs.sfc_debug.Steered.{Steered}
use Rattle.sfc_test.specs.declared.opened.Opened.{Opened}
use Rattle.sfc_test.specs.Answers.{Opens, SaysTests, Tests, Wish}
use Rattle.sfc_test.specs.Cases.{titled}
use Rattle.sfc_test.specs.Opening.{OpensTests}
use Rattle.sfc_test.specs.Taking.{Takes}
use Rattle.sfc_test.specs.Tallies.{Tally}
use Rattle.sfc_replay.proofs.Taken.{lost}

-- the chart is refused
pub plant_refused : (chart tests : List ℕ) (error : ReplayError) → Accepts chart (Err error) → OpensTests chart tests (Err error)
plant_refused chart tests (Chart e) h = h
plant_refused chart tests (Script n) h = absurd h
plant_refused chart tests Read h = absurd h
plant_refused chart tests Write h = absurd h
plant_refused chart tests Memory h = tt

module _ (chart tests : List ℕ) (plant : PlantData) (loaded : IsAccepted chart plant) where
  -- the tests are, over the plant
  pub tests_refused : (error : ScriptError) → ReadsTests plant tests (Err error) → OpensTests chart tests (Err (of_script error))
  tests_refused (script.Faulty n) reads = (plant, loaded, reads)
  tests_refused script.Memory reads = tt

  -- they say something
  pub tests_said : (file : TestFile) (opened : Opened) → ReadsTests plant tests (Ok file)
      → steered_in opened.bench ≡ record { plant = plant; table = file.table.items } → opened.lines ≡ file.lines
      → OpensTests chart tests (Ok opened)
  tests_said file opened reads same lines = record {
    loaded = subst (λ (s : Steered). IsAccepted chart s.plant) (sym same) loaded;
    said = λ read is. subst (λ (s : Steered). file_of s.plant read tests ≡ Ok (record { lines = opened.lines.items; table = s.table })) (sym same)
        (subst (λ ls. file_of plant read tests ≡ Ok (record { lines = ls; table = file.table.items })) (ap (λ ls. ls.items) (sym lines))
        (reads read is));
  }

-- the tests aren't opened
pub unopened : (chart tests : List ℕ) (wish : Wish) (t : Tally) (w : Device) (error : ReplayError) → OpensTests chart tests (Err error)
    → IsUntouched w → Tests chart tests wish t t w {X = Unit {0}} (Err error)
unopened chart tests wish t w (Chart e) h untouched = (h, untouched, refl)
unopened chart tests wish t w (Script n) h untouched = (h, untouched, refl)
unopened chart tests wish t w Read h untouched = absurd h
unopened chart tests wish t w Write h untouched = absurd h
unopened chart tests wish t w Memory h untouched = inl untouched

-- they are, and their cases are taken
pub all_taken : (chart tests : List ℕ) (wish : Wish) (old new : Tally) (w : Device) (steered : Steered) (lines : List Line)
    (result : Result (Unit {0}) ReplayError) → SaysTests chart tests steered lines → Takes wish steered (titled wish.file lines) old new w result
    → Tests chart tests wish old new w result
all_taken chart tests wish old new w steered lines (Ok done) says h = record { steered = steered; lines = lines; said = says; holds = h }
all_taken chart tests wish old new w steered lines (Err (Chart e)) says h = absurd h
all_taken chart tests wish old new w steered lines (Err (Script n)) says h = absurd h
all_taken chart tests wish old new w steered lines (Err Read) says h = absurd h
all_taken chart tests wish old new w steered lines (Err Write) says h = record { steered = steered; lines = lines; said = says; holds = h }
all_taken chart tests wish old new w steered lines (Err Memory) says h = inr (record { steered = steered; lines = lines; said = says; holds = h })

-- the chart isn't taken whole
pub chart_unread : (chart : Device) (error : ReplayError) → IsInputFault error → LosesAtMost most chart → Opens chart (Err error)
chart_unread chart (Chart e) h lost = absurd h
chart_unread chart (Script n) h lost = absurd h
chart_unread chart Read h lost = lost
chart_unread chart Write h lost = absurd h
chart_unread chart Memory h lost = lost

-- it is, and isn't a plant
pub chart_refused : (chart : Device) (text : List ℕ) (error : ReplayError) → TakesAtMost most chart text → Accepts text (Err error)
    → Opens chart (Err error)
chart_refused chart text (Chart e) taken h = (text, taken, h)
chart_refused chart text (Script n) taken h = absurd h
chart_refused chart text Read taken h = absurd h
chart_refused chart text Write taken h = absurd h
chart_refused chart text Memory taken h = lost most chart.0 chart.1 text taken
