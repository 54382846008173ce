-- What a `Program` shows of its tables.
use denote.Struct.Props.{props}
use Rattle.std.proofs.Common.{◌≡◌, length}
use Rattle.sfc_tables.specs.Tables.{Tabled}
use Rattle.sfc_action.proofs.Fitting.{delays_prop, inputs_prop}
use Rattle.sfc_instance.proofs.Apart.{apart_prop}
use Rattle.sfc_instance.proofs.Held.{held_prop}
use Rattle.sfc_instance.specs.declared.program.Program.{Program}
use Rattle.sfc_instance.specs.Agreement.{IsFor, step_total, transition_total, action_total}

module _ (tables : Tabled) (program : Program) where
  pub steps_shown : IsFor tables program → step_total program ≡ length tables.initial
  unfolding IsFor
  steps_shown h = h.run.now.steps.same_steps

  pub transitions_shown : IsFor tables program → transition_total program ≡ length tables.sides
  unfolding IsFor
  transitions_shown h = h.run.now.steps.same_transitions

  pub actions_shown : IsFor tables program → action_total program ≡ length tables.actions
  unfolding IsFor
  actions_shown h = h.run.now.controls.same_actions

  -- it is for them in one way at most
  pub for_prop : IsProp (IsFor tables program)
  unfolding IsFor
  for_prop = hlevel (props, delays_prop, inputs_prop, apart_prop, held_prop)
