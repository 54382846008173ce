-- What calls answer and write.
use Rattle.std.specs.Prelude.{◌≡◌, ◌⊎◌, ℕ, List, Result, Ok, Err}
use Rattle.std.specs.Io.KnownBytes.{Appends}
use Rattle.sfc_base.specs.Writing.{AppendsFront}
use Rattle.sfc_cases.specs.Conditions.{IsReader, Reader}
use Rattle.sfc_cases.specs.Files.{file_of}
use Rattle.sfc_cases.specs.declared.line.Line.{Line}
use Rattle.sfc_plant.specs.Plants.{PlantData}
use Rattle.sfc_replay.specs.Acceptance.{IsRefusedFor, OfChart, most}
use Rattle.sfc_replay.specs.Opening.{IsPlantText}
use Rattle.sfc_replay.specs.Reading.{Device, IsUntouched, LosesAtMost, TakesAtMost}
use Rattle.sfc_replay.specs.Working.Faults.{IsInputFault}
use Rattle.sfc_replay.specs.declared.replay_error.ReplayError.{ReplayError}
use Rattle.sfc_replay.specs.declared.replay_error.ReplayError.TheVariants.{Chart, Script, Read, Write, Memory}
use Rattle.sfc_replay.specs.sfc_debug.Steered.{Steered}
use Rattle.sfc_replay.specs.sfc_load.Accepted.{IsAccepted}
use Rattle.sfc_test.specs.declared.asked.Asked.{Asked}
use Rattle.sfc_test.specs.declared.asked.Asked.TheVariants.{Names}
use Rattle.sfc_test.specs.declared.asked.Choice.{Choice}
use Rattle.sfc_test.specs.declared.suite.Suite.{Suite}
use Rattle.sfc_test.specs.Cases.{TitledCase, titled, wanted}
use Rattle.sfc_test.specs.Results.{AreResults, CaseResult}
use Rattle.sfc_test.specs.Running.{tally_of}
use Rattle.sfc_test.specs.Tallies.{Tally, behind_results, no_cases, results_text}
use Rattle.sfc_test.specs.Texts.{titles_text}

-- ---- cases that are run

-- Over this plant the text has the titles of these cases of a file; or what came of each, by which the tally has grown.
abbrev pub TellsCases : Steered → List ℕ → Asked → List TitledCase → Tally → Tally → List ℕ → Type 0
TellsCases steered file Names cases old new text = (text ≡ titles_text cases) × (new ≡ old)
TellsCases steered file asked cases old new text = (results : List CaseResult) × AreResults steered cases results
    × (text ≡ results_text asked file old results) × (new ≡ behind_results file old results)

-- ---- files of tests

-- The chart is a plant, over which the tests say these lines, with these conditions of breakpoints.
pub record SaysTests (chart tests : List ℕ) (steered : Steered) (lines : List Line) : Type 0 where
  pub loaded : IsAccepted chart steered.plant
  pub said : (read : Reader) → IsReader read → file_of steered.plant read tests ≡ Ok (record { lines = lines; table = steered.table })

-- the chart is a plant, over which this line of the tests says nothing
abbrev pub AreTestsRefused : List ℕ → List ℕ → ℕ → Type 0
AreTestsRefused chart tests line = (plant : PlantData) × IsAccepted chart plant
    × ((read : Reader) → IsReader read → file_of plant read tests ≡ Err line)

-- the tests say something over the chart, and of that this
pub record OfTests (chart tests : List ℕ) (Holds : Steered → List Line → Type 0) : Type 0 where
  pub steered : Steered
  pub lines : List Line
  pub said : SaysTests chart tests steered lines
  pub holds : Holds steered lines

-- what is wanted of a file of this name: the word that stands in the titles, and how they are told
pub record Wish : Type 0 where
  pub file : List ℕ
  pub word : List ℕ
  pub asked : Asked

abbrev pub wish : List ℕ → Choice → Wish
wish file choice = record { file = file; word = choice.filter.now; asked = choice.asked }

-- the cases of the file are told, those that are wanted
abbrev pub TellsFile : Wish → Tally → Steered → List Line → Tally → List ℕ → Type 0
TellsFile wish old steered lines new text =
    TellsCases steered wish.file wish.asked (wanted wish.word (titled wish.file lines)) old new text

-- Some of a text was written, or nothing.
abbrev pub TellsFront : List ℕ → List ℕ → Wish → Tally → Device → Type 0
TellsFront chart tests wish old w = OfTests chart tests (λ steered lines.
    (text : List ℕ) × (later : Tally) × TellsFile wish old steered lines later text × AppendsFront w.0 w.1 text)

-- What a suite answers that runs the tests of a file on its chart, and what it has written.
abbrev pub Tests : List ℕ → List ℕ → Wish → Tally → Tally → Device → {X : Type 0} → Result X ReplayError → Type 0
Tests chart tests wish old new w (Ok done) = OfTests chart tests (λ steered lines.
    (text : List ℕ) × TellsFile wish old steered lines new text × Appends w.0 w.1 text)
Tests chart tests wish old new w (Err (Chart error)) = IsRefusedFor chart error × IsUntouched w × (new ≡ old)
Tests chart tests wish old new w (Err (Script line)) = AreTestsRefused chart tests line × IsUntouched w × (new ≡ old)
Tests chart tests wish old new w (Err Write) = TellsFront chart tests wish old w
Tests chart tests wish old new w (Err Memory) = IsUntouched w ⊎ TellsFront chart tests wish old w
Tests chart tests wish old new w (Err _) = ⊥

-- ---- readers of files

-- one byte more than the longest file of tests has
abbrev pub most_tests : ℕ
most_tests = 67108865

-- the file wasn't taken whole: nothing was written, and nothing counted
abbrev pub IsUnread : Device → Tally → Tally → Device → {X : Type 0} → Result X ReplayError → Type 0
IsUnread reader old new w (Ok done) = ⊥
IsUnread reader old new w (Err error) = IsInputFault error × LosesAtMost most_tests reader × IsUntouched w × (new ≡ old)

-- The tests are what was taken from the reader, which are run.
abbrev pub TestsFrom : Device → List ℕ → Wish → Tally → Tally → Device → {X : Type 0} → Result X ReplayError → Type 0
TestsFrom reader chart wish old new w result = IsUnread reader old new w result
    ⊎ ((tests : List ℕ) × TakesAtMost most_tests reader tests × Tests chart tests wish old new w result)

-- ---- suites

-- its chart, and what has come of its cases
unfoldable pub chart_in : Suite → List ℕ
chart_in suite = suite.chart.items

unfoldable pub tally_in : Suite → Tally
tally_in suite = tally_of suite.results

-- What a suite is opened as: of a chart that is a plant, without a case so far.
abbrev pub Opens : Device → Result Suite ReplayError → Type 0
Opens chart (Ok suite) = OfChart chart (λ text. IsPlantText text × (chart_in suite ≡ text)) × (tally_in suite ≡ no_cases)
Opens chart (Err (Chart error)) = OfChart chart (λ text. IsRefusedFor text error)
Opens chart (Err Read) = LosesAtMost most chart
Opens chart (Err Memory) = LosesAtMost most chart
Opens chart (Err _) = ⊥

-- a text was written, or a front of it before the writer's fault, or of nothing for want of memory
abbrev pub Puts : List ℕ → Device → {X : Type 0} → Result X ReplayError → Type 0
Puts text w (Ok done) = Appends w.0 w.1 text
Puts text w (Err Write) = AppendsFront w.0 w.1 text
Puts text w (Err Memory) = IsUntouched w
Puts text w (Err _) = ⊥
