use Rattle.std.proofs.Common.{◌≡◌, length}
use Rattle.sfc_output.specs.sfc_debug.Agreement.{Agrees}
use Rattle.sfc_output.specs.sfc_debug.Histories.{CommandHistory}
use Rattle.sfc_output.specs.sfc_debug.Steered.{steered_by}
use Rattle.sfc_replay.proofs.Playing.{IsUnderWay}
use Rattle.sfc_replay.proofs.play.play_commands.Given as goal

abbrev pub invariant-commands : goal.invariant-commands
invariant-commands g l = record {
  steered : steered_by l.debugger ≡ steered_by l.initial.debugger;
  fits : g.R.Report.fits l.report (steered_by l.initial.debugger);
  under_way : (h : CommandHistory) → Agrees l.initial.debugger h → IsUnderWay (record {
    lines = g.R.Report.lines (steered_by l.initial.debugger);
    Began = g.R.Report.agrees l.initial.report (steered_by l.initial.debugger) h;
  }) (steered_by l.initial.debugger) (g.W.Write.contents l.initial.w) (g.W.Write.contents l.w) l.initial.page l.page l.debugger
      (g.R.Report.agrees l.report (steered_by l.initial.debugger)) l.amiss h l.commands l.rest;
}

abbrev pub decreases-commands : goal.decreases-commands
decreases-commands g l = length l.rest
