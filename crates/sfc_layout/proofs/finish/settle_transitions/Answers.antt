use Rattle.std.proofs.Common.{◌≢◌, ◌<◌, ◌+◌, ◌∙◌, get_or, length, ap, sym, subst, arith}
use Rattle.std.proofs.lemmas.List.{get_or_default}
use Rattle.sfc_layout.specs.Sizes.{IsOfSize, step_extent, transition_extent}
use Rattle.sfc_layout.proofs.SizeLemmas.{more_boxes_behind, sized_as}
use Rattle.sfc_layout.proofs.finish.settle_transitions.Goals as goal

pub loop-number-preserved : goal.loop-number-preserved
loop-number-preserved c = record {
  len = c.in_ok-settle_missing.ensures.others.len ∙ c.loop-number.invariant.len;
  steps = λ v s d lt.
      let apart : v ≢ length c.args.steps.now + c.loop-number.number = omega arith in
      subst (λ b. IsOfSize (step_extent (get_or c.args.steps.now v s)) 34 b) (sym (c.in_ok-settle_missing.ensures.others.others v d apart))
      (c.loop-number.invariant.steps v s d lt);
  boxes = λ v s d below lt.
      more_boxes_behind (λ k b. k < length c.args.transitions.now → IsOfSize (transition_extent (get_or c.args.transitions.now k s)) 12 b)
      c.loop-number.board.boxes.items c.settle_missing.new.self.boxes.items (length c.args.steps.now) c.loop-number.number d
      (λ k less. c.loop-number.invariant.boxes k s d less)
      (λ there. sized_as _ _ _ _ _ (c.room.ensures.own ∙ (c.extent.ensures ∙ ap transition_extent (get_or_default _ _ _ s there))) c.room.ensures.height
      (c.in_ok-settle_missing.ensures.size d (omega (arith, there, c.in_ok-settle_missing.ensures.others.len))))
      c.in_ok-settle_missing.ensures.others v below lt;
}

pub returns-clause-boxes : goal.returns-clause-boxes
returns-clause-boxes c = λ t s d lt. c.loop-number.invariant.boxes t s d (omega arith) lt
