use Rattle.std.proofs.Common.{List, flat_map, subst}
use Rattle.sfc_plant.specs.declared.action.Action.{Action}
use Rattle.sfc_plant.specs.declared.chart.Step.{Step}
use Rattle.sfc_plant.specs.declared.chart.Transition.{Transition}
use Rattle.sfc_list.specs.Charts.{step_text, transition_text, action_text}
use Rattle.sfc_list.specs.Private.Sinking.{Puts}
use Rattle.sfc_list.proofs.Sunk.{puts_then}
use Rattle.sfc_list.proofs.program.put_chart.Goals as goal

pub returns : goal.returns
returns g c =
    let n : _ = g.W.Write.contents in
    let steps : Puts n c.args.out.now c.put_steps.new.out (flat_map (step_text c.args.names.now) c.args.chart.now.steps) =
    subst (λ (xs : List Step). Puts n c.args.out.now c.put_steps.new.out (flat_map (step_text c.args.names.now) xs)) c.as_slice.ensures c.put_steps.ensures in
    let transitions : Puts n c.put_steps.new.out c.put_transitions.new.out (flat_map (transition_text c.args.names.now) c.args.chart.now.transitions) =
    subst (λ (xs : List Transition). Puts n c.put_steps.new.out c.put_transitions.new.out (flat_map (transition_text c.args.names.now) xs)) c.as_slice-2.ensures c.put_transitions.ensures in
    let actions : Puts n c.put_transitions.new.out c.put_actions.new.out (flat_map (action_text c.args.names.now) c.args.chart.now.actions) =
    subst (λ (xs : List Action). Puts n c.put_transitions.new.out c.put_actions.new.out (flat_map (action_text c.args.names.now) xs)) c.as_slice-3.ensures c.put_actions.ensures in
    (puts_then n _ _ _ _ _ (puts_then n _ _ _ _ _ steps transitions) actions)
