-- What `test` prints of a chart and a file of tests.
use Rattle.std.specs.Prelude.{◌≡◌, ℕ, List, ◌++◌, codes, flat_map, take, ⊤}
use Rattle.sfc_cases.specs.declared.line.Line.{Line}
use Rattle.sfc_replay.specs.Acceptance.{IsRefusedFor}
use Rattle.sfc_replay.specs.declared.replay_error.ReplayError.TheVariants.{Chart, Script, Memory}
use Rattle.sfc_replay.specs.sfc_debug.Steered.{Steered}
use Rattle.sfc_test.specs.Answers.{AreTestsRefused, OfTests, most_tests}
use Rattle.sfc_test.specs.Cases.{titled}
use Rattle.sfc_test.specs.Results.{AreResults, CaseResult, failed_among, passed_among}
use Rattle.sfc_test.specs.Tallies.{counted, counts_text}
use Rattle.sfc_test.specs.Texts.{result_text}
use Rattle.sfc_tools.specs.declared.tool_error.ToolError.{ToolError}
use Rattle.sfc_tools.specs.declared.tool_error.ToolError.TheVariants.{Replay}
use Rattle.sfc_tools.specs.Told.{Answer, Tells, read_of}

-- So much is read of tests; a longer text is refused for its length.
abbrev pub tests_of : List ℕ → List ℕ
tests_of tests = take most_tests tests

-- The text is what came of each case, in their order, and behind them how many have passed and how many have failed. A case passes just
-- where each of its lines is right over the plant.
abbrev pub IsOutcomeOf : Steered → List Line → List ℕ → Type 0
IsOutcomeOf steered lines text = (results : List CaseResult) × AreResults steered (titled (codes "tests") lines) results
    × (text ≡ flat_map result_text results ++ counts_text (counted (passed_among results)) (counted (failed_among results)))

-- the chart is a plant, over which the tests have cases, and of these is the text
abbrev pub IsOutcome : List ℕ → List ℕ → List ℕ → Type 0
IsOutcome chart tests text = OfTests chart tests (λ steered lines. IsOutcomeOf steered lines text)

-- the chart is refused, or a line of the tests is; want of memory says nothing
abbrev pub IsUntoldOfTests : List ℕ → List ℕ → ToolError → Type 0
IsUntoldOfTests chart tests (Replay (Chart error)) = IsRefusedFor chart error
IsUntoldOfTests chart tests (Replay (Script line)) = AreTestsRefused chart tests line
IsUntoldOfTests chart tests (Replay Memory) = ⊤
IsUntoldOfTests chart tests _ = ⊥

abbrev pub TellsOutcome : List ℕ → List ℕ → Answer → Type 0
TellsOutcome chart tests answer = Tells (IsOutcome (read_of chart) (tests_of tests)) (IsUntoldOfTests (read_of chart) (tests_of tests)) answer
