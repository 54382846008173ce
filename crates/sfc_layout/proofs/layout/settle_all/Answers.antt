use Rattle.std.proofs.Common.{length, ap}
use Rattle.sfc_layout.proofs.SizeLemmas.{step_boxes_as, transition_boxes_as}
use Rattle.sfc_layout.proofs.layout.settle_all.Goals as goal

pub returns-clause-step_boxes : goal.returns-clause-step_boxes
returns-clause-step_boxes c =
    step_boxes_as _ _ _ _ c.as_slice-steps.ensures.value c.into_boxes.ensures.boxes c.in_ok-settle_transitions.ensures.steps

pub returns-clause-transition_boxes : goal.returns-clause-transition_boxes
returns-clause-transition_boxes c =
    transition_boxes_as _ _ _ _ _ _ (ap (λ xs. length xs) c.as_slice-steps.ensures.value) c.as_slice-transitions.ensures.value
    c.into_boxes.ensures.boxes c.in_ok-settle_transitions.ensures.boxes
