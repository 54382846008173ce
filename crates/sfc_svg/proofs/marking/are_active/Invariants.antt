use Rattle.std.proofs.Common.{◌≡◌, true, List, take}
use Rattle.std.specs.List.{list_all}
use Rattle.sfc_base.specs.declared.references.StepId.{StepId}
use Rattle.sfc_replay.specs.sfc_image.Changes.{Change}
use Rattle.sfc_replay.specs.sfc_instance.Answers.{is_step_active}
use Rattle.sfc_replay.specs.sfc_instance.Life.{InstanceState}
use Rattle.sfc_replay.specs.sfc_instance.Views.{Shows, tables_in}
use Rattle.sfc_svg.proofs.marking.are_active.Given as goal

abbrev pub invariant-loop-step : goal.invariant-loop-step
invariant-loop-step l = (changes : List Change) (state : InstanceState) → Shows l.view changes state →
    list_all (λ (step : StepId). is_step_active (tables_in l.view) state step.0) (take l.step-index l.steps) ≡ true
