use Rattle.std.proofs.Common.{◌≡◌, ◌∙◌, sym, ap, subst, ℕ, List, Some, None}
use Rattle.std.specs.Prelude.{IfOk}
use Rattle.sfc_plant.specs.Plants.{PlantData}
use Rattle.sfc_debug.specs.sfc_core.Agreement.{plant_of}
use Rattle.sfc_script.specs.Commands.{command_of, conditional_of}
use Rattle.sfc_cases.specs.Conditions.{condition_by}
use Rattle.sfc_cases.specs.Deeds.{given_by, waits}
use Rattle.sfc_cases.proofs.saying.read_given.Goals as goal

pub returns-in-Some-read_conditional : goal.returns-in-Some-read_conditional
returns-in-Some-read_conditional c = λ read is.
    let plant : PlantData = plant_of c.args.resource.now in
    let text : List ℕ = c.args.text.now in
    let said = c.in-Some-read_conditional.conditional in
    let path : given_by plant read c.args.instant (command_of plant text) (conditional_of plant text)
    ≡ waits c.args.instant said.place.point (condition_by plant said.place.program (read said.text.now)) =
    ap (λ o. given_by plant read c.args.instant o (conditional_of plant text)) (sym c.in_default.ensures)
    ∙ ap (λ o. given_by plant read c.args.instant None o) c.in-Some-read_conditional.ensures in
    subst (λ o. IfOk c.read_awaited.result (λ s. s ≡ o)) (sym path)
    (subst (λ (p : PlantData). IfOk c.read_awaited.result (λ s. s ≡ waits c.args.instant said.place.point (condition_by p said.place.program (read said.text.now))))
    c.plant.ensures (c.read_awaited.ensures read is))
