use Rattle.std.proofs.Common.{◌∙◌}
use Rattle.sfc_replay.specs.sfc_debug.Steered.{steered_by}
use Rattle.sfc_svg.proofs.Giving.{given_more}
use Rattle.sfc_svg.proofs.playing.obey_all.Goals as goal

pub loop-timed-preserved : goal.loop-timed-preserved
loop-timed-preserved c = record {
  steered = c.give.ensures.steered ∙ c.loop-timed.invariant.steered;
  agrees = λ h agrees.
      given_more (steered_by c.args.debugger.now) (steered_by c.loop-timed.debugger) c.give.new.debugger h c.args.commands.now
      c.loop-timed.timed-index c.timed-item.result c.loop-timed-test.true c.timed-item.is c.loop-timed.invariant.steered
      (c.give.ensures.agrees _ (c.loop-timed.invariant.agrees h agrees));
}
