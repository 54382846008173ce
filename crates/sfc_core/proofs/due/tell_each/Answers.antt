use Rattle.std.proofs.Common.{◌∙◌, ◌<◌, add-one, arith, length}
use Rattle.sfc_core.proofs.Rises.{risen, unrisen}
use Rattle.sfc_core.proofs.due.tell_each.Goals as goal
use Rattle.sfc_core.proofs.due.tell_each.Goals.{then-rose, else-rose}

pub loop-k-preserved : goal.loop-k-preserved
loop-k-preserved c =
    let before = c.args.before.now in
    let after = c.args.after.now in
    let k = c.loop-k.k in
    let invariant = c.loop-k.invariant in
    let within : k < length after = omega (arith, c.loop-k-test.true, c.requires.before, c.requires.after) in
    elim c.if-rose.branch [
      | then-rose w ↦
          rw (w.tasks-is, w.ticks-is, add-one) (record {
            size = w.edge.ensures.size ∙ invariant.size;
            low = omega (arith, invariant.low, w.edge.ensures.ticks.0);
            high = omega (arith, invariant.high, w.edge.ensures.ticks.1);
            rises = λ all calls h.
                risen _ before after k c.loop-k-test.true within all calls c.loop-k.tasks w.edge.new.self c.rose.result
                c.rose.ensures w.if-rose.true (λ now a. w.edge.ensures.agrees all now a) (invariant.rises all calls h);
          })
      | else-rose w ↦
          rw (w.tasks-is, w.ticks-is, add-one) (record {
            size = invariant.size;
            low = invariant.low;
            high = omega (arith, invariant.high);
            rises = λ all calls h.
                unrisen _ before after k c.loop-k-test.true within all calls c.loop-k.tasks c.rose.result
                c.rose.ensures w.if-rose.false (invariant.rises all calls h);
          })
    ]
