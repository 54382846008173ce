use Rattle.std.proofs.Common.{◌∙◌, sym, Bool, length}
use Rattle.sfc_output.specs.sfc_instance.Answers.{is_action_executed, is_step_active, is_transition_cleared}
use Rattle.sfc_output.specs.sfc_instance.Life.{InstanceState}
use Rattle.sfc_output.specs.sfc_tables.Tables.{Tabled}
use Rattle.sfc_output.specs.sfc_instance.Views.{tables_in}
use Rattle.sfc_panel.specs.Changes.{are_alike}
use Rattle.sfc_panel.proofs.Sets.{first_apart, second_apart, third_left}
use Rattle.sfc_panel.proofs.picture.stands_as.Goals as goal

module _ (tables : Tabled) (old new : InstanceState) where
  abbrev steps : Bool
  steps = are_alike (is_step_active tables old) (is_step_active tables new) (length tables.initial)

  abbrev transitions : Bool
  transitions = are_alike (is_transition_cleared tables old) (is_transition_cleared tables new) (length tables.sides)

  abbrev actions : Bool
  actions = are_alike (is_action_executed tables old) (is_action_executed tables new) (length tables.actions)

pub returns-else-steps : goal.returns-else-steps
returns-else-steps c changes old new shot shows =
    let t : Tabled = tables_in c.args.view.now in
    first_apart c.are_steps_alike-steps.result (steps t old new) (transitions t old new) (actions t old new)
    (c.are_steps_alike-steps.ensures changes old new shot shows) c.if-steps.false

pub returns-else-transitions : goal.returns-else-transitions
returns-else-transitions c changes old new shot shows =
    let t : Tabled = tables_in c.args.view.now in
    second_apart c.are_transitions_alike-transitions.result (steps t old new) (transitions t old new) (actions t old new)
    (sym (c.are_steps_alike-steps.ensures changes old new shot shows) ∙ c.if-steps.true)
    (c.are_transitions_alike-transitions.ensures changes old new shot shows) c.if-transitions.false

pub returns-then-transitions : goal.returns-then-transitions
returns-then-transitions c changes old new shot shows =
    let t : Tabled = tables_in c.args.view.now in
    third_left c.are_actions_alike-actions.result (steps t old new) (transitions t old new) (actions t old new)
    (sym (c.are_steps_alike-steps.ensures changes old new shot shows) ∙ c.if-steps.true)
    (sym (c.are_transitions_alike-transitions.ensures changes old new shot shows) ∙ c.if-transitions.true)
    (c.are_actions_alike-actions.ensures changes old new shot shows)
