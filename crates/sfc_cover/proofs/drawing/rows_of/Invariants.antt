use Rattle.std.proofs.Common.{◌≡◌, map, take}
use Rattle.sfc_replay.specs.sfc_tables.declared.step_action.StepAction.{StepAction}
use Rattle.sfc_cover.specs.Unreached.{action_mark}
use Rattle.sfc_cover.proofs.drawing.rows_of.Given as goal

abbrev pub invariant-loop-association : goal.invariant-loop-association
invariant-loop-association l =
    l.rows.items ≡ map (λ (association : StepAction). action_mark l.reach association.action.0) (take l.association-index l.associations)
