use Rattle.std.proofs.Common.{◌≡◌, take}
use Rattle.sfc_replay.specs.sfc_debug.Agreement.{Agrees}
use Rattle.sfc_replay.specs.sfc_debug.Histories.{CommandHistory}
use Rattle.sfc_replay.specs.sfc_debug.Steered.{steered_by}
use Rattle.sfc_replay.specs.sfc_output.Output.{debugger_of, session_after}
use Rattle.sfc_svg.proofs.playing.obey_all.Given as goal

abbrev pub invariant-loop-timed : goal.invariant-loop-timed
invariant-loop-timed l = record {
  steered : steered_by l.debugger ≡ steered_by l.initial.debugger;
  agrees : (h : CommandHistory) → Agrees l.initial.debugger h →
      Agrees l.debugger (session_after (debugger_of (steered_by l.initial.debugger)) h (take l.timed-index l.commands));
}
