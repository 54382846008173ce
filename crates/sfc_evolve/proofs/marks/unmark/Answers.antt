use Rattle.std.proofs.Common.{arith, ap, length, ◌∙◌}
use Rattle.std.proofs.lemmas.List.{length-set}
use Rattle.sfc_evolve.proofs.Tested.{unmarked_more}
use Rattle.sfc_evolve.proofs.marks.unmark.Goals as goal

pub loop-step-preserved : goal.loop-step-preserved
loop-step-preserved c =
    let was = c.loop-step.invariant in
    record {
      rest = unmarked_more c.args.steps.now c.loop-step.step-index c.loop-step.flags c.set.new.self _ c.loop-step-test.true
          c.set.ensures was.rest;
      len = ap length c.set.ensures ∙ length-set _ _ _ ∙ was.len;
      ticks = (omega (arith, was.ticks.0), omega (arith, was.ticks.1));
    }
