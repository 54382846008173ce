use Rattle.std.proofs.Common.{◌∙◌, arith, subst}
use Rattle.sfc_action.specs.Private.Marking.{AreSized}
use Rattle.sfc_action.proofs.StepGiving.{next_joined}
use Rattle.sfc_action.proofs.marking.join_all.Goals as goal

pub loop-run-preserved : goal.loop-run-preserved
loop-run-preserved c =
    let was = c.loop-run.invariant in
    record {
      count = c.join.ensures.sized.any_time ∙ was.count;
      sized = subst (λ n. AreSized n c.join.new.self) was.count c.join.ensures.sized;
      rows = λ a.
          next_joined a c.args.runs.now c.loop-run.run-index _ c.loop-run.inputs c.join.new.self c.loop-run-test.true (c.join.ensures.rows a)
          ∙ was.rows a;
      ticks = (omega arith, omega arith);
    }
