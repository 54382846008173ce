-- What a report is told.
use Rattle.std.specs.Prelude.{◌≡◌}
use Rattle.sfc_output.specs.sfc_debug.declared.debugger.Debugger.{Debugger}
use Rattle.sfc_output.specs.sfc_debug.Agreement.{Agrees}
use Rattle.sfc_output.specs.sfc_debug.Histories.{CommandHistory, TimedCommand}
use Rattle.sfc_output.specs.sfc_debug.Steered.{steered_by}
use Rattle.sfc_output.specs.Output.{Verdict, debugger_of}

-- after these accepted commands the debugger was given one more, and this is its answer
pub record HasAnswered (debugger : Debugger) (h : CommandHistory) (timed : TimedCommand) (answer : Verdict) : Type 0 where
  pub agrees : Agrees debugger ((debugger_of (steered_by debugger)).after h timed)
  pub verdict : answer ≡ (debugger_of (steered_by debugger)).verdict h timed
