-- What is cited of tests that are opened over a chart.
use Rattle.std.specs.Prelude.{ℕ, List, Result, Ok, Err, ⊤}
use Rattle.sfc_judge.specs.Running.Benches.{steered_in}
use Rattle.sfc_replay.specs.Acceptance.{IsRefusedFor}
use Rattle.sfc_replay.specs.declared.replay_error.ReplayError.{ReplayError}
use Rattle.sfc_replay.specs.declared.replay_error.ReplayError.TheVariants.{Chart, Script, Memory}
use Rattle.sfc_test.specs.declared.opened.Opened.{Opened}
use Rattle.sfc_test.specs.Answers.{AreTestsRefused, SaysTests}

-- want of memory says nothing
abbrev pub OpensTests : List ℕ → List ℕ → Result Opened ReplayError → Type 0
OpensTests chart tests (Ok opened) = SaysTests chart tests (steered_in opened.bench) opened.lines.items
OpensTests chart tests (Err (Chart error)) = IsRefusedFor chart error
OpensTests chart tests (Err (Script line)) = AreTestsRefused chart tests line
OpensTests chart tests (Err Memory) = ⊤
OpensTests chart tests (Err _) = ⊥
