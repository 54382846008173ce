use Rattle.std.proofs.Common.{◌<◌, ◌==◌, ◌∙◌, ap, sym, subst, length, refl, ℕ, List}
use Rattle.std.specs.Prelude.{All, map, filter}
use Rattle.std.specs.List.Sorted.{IsNonDecreasing, IsNonDecreasingBy}
use Rattle.sfc_plant.specs.declared.association.Association.{Association}
use Rattle.sfc_plant.specs.declared.association.Target.{Target}
use Rattle.sfc_plant.specs.declared.chart.Step.{Step}
use Rattle.sfc_tables.specs.declared.step_action.StepAction.{StepAction}
use Rattle.sfc_tables.specs.Actions.{number_of}
use Rattle.sfc_tables.specs.Private.Grouping.{first_places}
use Rattle.sfc_tables.proofs.Found.{all_found}
use Rattle.sfc_tables.proofs.Groupings.{grouping_is}
use Rattle.sfc_tables.proofs.Numberings.{steps_rise, mapped}
use Rattle.sfc_tables.proofs.action_blocks.ActionBlocks.build.Goals as goal

pub list_associations-requires-clause-targets : goal.list_associations-requires-clause-targets
list_associations-requires-clause-targets c =
    subst (λ (steps : List Step). All
    (λ (step : Step). All
    (λ (a : Association). (number_of c.in_ok-actions.actions a.target).0 < length c.in_ok-actions.actions) step.associations)
    steps) (sym c.as_slice.ensures)
    (subst (λ (actions : List Target). All
    (λ (step : Step). All (λ (a : Association). (number_of actions a.target).0 < length actions) step.associations)
    c.args.chart.now.steps) (sym c.in_ok-actions.ensures)
    (all_found c.requires.chart.0 c.args.chart.now c.requires.chart.1.associations))

pub starts-requires-clause-sorted : goal.starts-requires-clause-sorted
starts-requires-clause-sorted c =
    let up : IsNonDecreasingBy (λ (m : StepAction). m.step.0) c.in_ok-associations.associations.items =
    subst (λ (xs : List StepAction). IsNonDecreasingBy (λ (m : StepAction). m.step.0) xs) (sym c.in_ok-associations.ensures)
    (steps_rise c.in_ok-actions.actions c.as_slice.result.now) in
    let read = c.deref-2.ensures.value ∙ c.in_ok-steps_of.ensures ∙ ap (map (λ (m : StepAction). m.step.0)) c.deref.ensures.value in
    subst (λ (xs : List ℕ). IsNonDecreasing xs) (sym read) (mapped (λ m. m.step.0) c.in_ok-associations.associations.items up)

pub starts-requires-2-clause-sorted : goal.starts-requires-2-clause-sorted
starts-requires-2-clause-sorted c =
    let read = c.deref-5.ensures.value ∙ c.in_ok-actions_of.ensures ∙ ap (map (λ (m : StepAction). m.action.0)) c.deref-4.ensures.value in
    subst (λ (xs : List ℕ). IsNonDecreasing xs) (sym read)
    (mapped (λ m. m.action.0) c.in_ok-by_action.by_action.items c.in_ok-by_action.ensures.sorted)

pub invariant_of-result : goal.invariant_of-result
invariant_of-result c =
    let all = c.in_ok-associations.associations.items in
    let actions = c.in_ok-actions.actions in
    let up : IsNonDecreasingBy (λ (m : StepAction). m.step.0) all =
    subst (λ (xs : List StepAction). IsNonDecreasingBy (λ (m : StepAction). m.step.0) xs) (sym c.in_ok-associations.ensures)
    (steps_rise actions c.as_slice.result.now) in
    let steps_read = c.deref-2.ensures.value ∙ c.in_ok-steps_of.ensures ∙ ap (map (λ (m : StepAction). m.step.0)) c.deref.ensures.value in
    let actions_read = c.deref-5.ensures.value ∙ c.in_ok-actions_of.ensures
    ∙ ap (map (λ (m : StepAction). m.action.0)) c.deref-4.ensures.value in
    record {
      by_step = grouping_is (λ m. m.step.0) c.len-steps.result all all c.deref-2.result.now c.in_ok-step_starts.step_starts.items up
          (λ k. refl) steps_read c.in_ok-step_starts.ensures;
      by_action =
          grouping_is (λ m. m.action.0)
          (length actions) all c.in_ok-by_action.by_action.items c.deref-5.result.now
          c.in_ok-action_starts.action_starts.items c.in_ok-by_action.ensures.sorted
          (λ k. c.in_ok-by_action.ensures.groups k ∙ ap (filter (λ (m : StepAction). m.action.0 == k)) c.deref-3.ensures.value)
          actions_read (c.in_ok-action_starts.ensures ∙ ap (first_places c.deref-5.result.now) c.len.ensures);
    }
