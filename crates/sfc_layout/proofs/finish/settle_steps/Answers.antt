use Rattle.std.proofs.Common.{◌<◌, ◌∙◌, get_or, length, ap, arith}
use Rattle.std.proofs.lemmas.List.{get_or_default}
use Rattle.sfc_layout.specs.Sizes.{IsOfSize, step_extent}
use Rattle.sfc_layout.proofs.SizeLemmas.{more_boxes, sized_as}
use Rattle.sfc_layout.proofs.finish.settle_steps.Goals as goal

pub loop-node-preserved : goal.loop-node-preserved
loop-node-preserved c = record {
  len = c.in_ok-settle_missing.ensures.others.len ∙ c.loop-node.invariant.len;
  boxes = λ v s d below lt.
      more_boxes (λ k b. k < length c.args.steps.now → IsOfSize (step_extent (get_or c.args.steps.now k s)) 34 b)
      c.loop-node.board.boxes.items c.settle_missing.new.self.boxes.items c.loop-node.node d
      (λ k less. c.loop-node.invariant.boxes k s d less)
      (λ there. sized_as _ _ _ _ _ (c.room.ensures.own ∙ (c.extent.ensures ∙ ap step_extent (get_or_default _ _ _ s there))) c.room.ensures.height
      (c.in_ok-settle_missing.ensures.size d (omega (arith, there, c.in_ok-settle_missing.ensures.others.len))))
      c.in_ok-settle_missing.ensures.others v below lt;
}

pub returns-clause-boxes : goal.returns-clause-boxes
returns-clause-boxes c = λ v s d lt. c.loop-node.invariant.boxes v s d (omega arith) lt
