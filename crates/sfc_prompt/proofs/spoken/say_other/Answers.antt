use Rattle.std.proofs.Common.{◌≡◌, ◌∙◌, sym, ap, subst, ℕ, List, Option, Some}
use Rattle.sfc_plant.specs.Plants.{PlantData}
use Rattle.sfc_asking.specs.sfc_output.Output.{Verdict}
use Rattle.sfc_prompt.specs.Orders.{Obeys, other_step, step_order}
use Rattle.sfc_session.specs.Sessions.{steered_in}
use Rattle.sfc_session.specs.declared.session.Session.{Session}
use Rattle.sfc_session.specs.declared.step.Step.{Step}
use Rattle.sfc_prompt.proofs.spoken.say_other.Goals as goal

pub returns-in_ok-append_hint-in-Some-clause-obeys : goal.returns-in_ok-append_hint-in-Some-clause-obeys
returns-in_ok-append_hint-in-Some-clause-obeys c h lines said =
    let old : Session = c.args.session.now in
    let new : Session = c.take.new.session in
    let x : List ℕ = c.args.out.now.items in
    let y : List ℕ = c.take.new.out.items in
    let v : Verdict = c.in_ok-answer-in-Some.answer in
    let is : Some c.in-Some.step ≡ other_step (steered_in old).plant c.args.spoken.instant c.args.spoken.text.now =
    sym c.in-Some.is ∙ c.other_step.ensures
    ∙ ap (λ (plant : PlantData). other_step plant c.args.spoken.instant c.args.spoken.text.now) c.plant.ensures in
    subst (λ (o : Option Step). Obeys old new x c.append_hint.new.out.items h lines (step_order (steered_in old) h o)) is
    (v, y, c.in_ok-answer-in-Some.ensures.taken h lines said, c.in_ok-append_hint-in-Some.ensures)
