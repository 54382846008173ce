use Rattle.std.proofs.Common.{◌≡◌, ◌∙◌, sym, ap, subst, ℕ, List, Option, Some}
use Rattle.sfc_plant.specs.Plants.{PlantData}
use Rattle.sfc_events.specs.declared.command.Command.{Command}
use Rattle.sfc_asking.specs.sfc_core.Agreement as core
use Rattle.sfc_asking.specs.sfc_debug.Agreement.{plant_of}
use Rattle.sfc_asking.specs.sfc_debug.Steered.{Steered}
use Rattle.sfc_asking.specs.sfc_script.Commands.{command_of, conditional_of}
use Rattle.sfc_session.specs.declared.session.Session.{Session}
use Rattle.sfc_prompt.specs.Orders.{Obeys, order_by}
use Rattle.sfc_session.specs.Sessions.{steered_in}
use Rattle.sfc_prompt.proofs.spoken.say.Goals as goal

pub returns-in-Some-clause-obeys : goal.returns-in-Some-clause-obeys
returns-in-Some-clause-obeys c h lines said =
    let old : Session = c.args.session.now in
    let new : Session = c.give.new.session in
    let st : Steered = steered_in old in
    let text : List ℕ = c.args.spoken.text.now in
    let plant : core.plant_of c.resource-resource.result.now ≡ st.plant =
    c.resource-resource.ensures.plant ∙ ap plant_of c.debugger.ensures in
    let is : command_of st.plant text ≡ Some c.in-Some.command =
    sym (ap (λ (p : PlantData). command_of p text) plant) ∙ sym c.read_command.ensures ∙ c.in-Some.is in
    subst (λ (o : Option Command). Obeys old new c.args.out.now.items c.give.new.out.items h lines
    (order_by st h c.args.spoken.instant text o (conditional_of st.plant text))) (sym is)
    (c.in_ok-give.ensures h lines said)
