use Rattle.std.proofs.Common.{map, sym, subst, ◌∙◌}
use Rattle.std.proofs.lemmas.Result.{err_from_is_err_and}
use Rattle.sfc_text.specs.Trees.{element_of}
use Rattle.sfc_variables.specs.Checks.{Fails}
use Rattle.sfc_program.specs.Elements.{action_names, transition_names}
use Rattle.sfc_program.proofs.Distinct.{part_passes, part_fails}
use Rattle.sfc_program.proofs.element_names.add_others.Goals as goal

pub returns-in_err-actions : goal.returns-in_err-actions
returns-in_err-actions c =
    let p = err_from_is_err_and c.from_residual.result c.from_residual.ensures.1 in
    rw (p.1, p.2)
    (part_fails c.in_err-actions.field-0.0 c.args.space.now (action_names (map element_of c.args.elements.now))
    (transition_names (map element_of c.args.elements.now))
    c.in_err-actions.ensures.loads)

pub returns-in_err-add_transitions : goal.returns-in_err-add_transitions
returns-in_err-add_transitions c =
    let p = err_from_is_err_and c.from_residual-in_err-add_transitions.result c.from_residual-in_err-add_transitions.ensures.1 in
    rw (p.1, p.2)
    (subst (Fails c.in_err-add_transitions.field-0.0)
    (sym (part_passes c.args.space.now c.add_actions.new.space (action_names (map element_of c.args.elements.now))
    (transition_names (map element_of c.args.elements.now))
    c.in_ok-actions.ensures.loads.0 c.in_ok-actions.ensures.named))
    c.in_err-add_transitions.ensures)

pub returns : goal.returns
returns c = (
  part_passes c.args.space.now c.add_actions.new.space (action_names (map element_of c.args.elements.now))
      (transition_names (map element_of c.args.elements.now))
      c.in_ok-actions.ensures.loads.0 c.in_ok-actions.ensures.named
      ∙ c.in_ok-add_transitions.ensures.0,
  c.in_ok-actions.ensures.loads.1,
)
