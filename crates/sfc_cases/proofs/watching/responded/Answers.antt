use Rattle.std.proofs.Common.{◌∙◌, sym, ap, ℕ, List}
use Rattle.std.specs.Option.{option_and_then}
use Rattle.sfc_plant.specs.Plants.{PlantData}
use Rattle.sfc_cases.specs.Conditions.{condition}
use Rattle.sfc_cases.specs.Deeds.{response_by}
use Rattle.sfc_cases.proofs.watching.responded.Goals as goal

pub returns : goal.returns
returns c = λ read is.
    let plant : PlantData = c.args.plant.now in
    let d = c.args.within in
    let front : List ℕ = c.in-Some.front.now in
    c.response_by.ensures
    ∙ ap (λ o. response_by d o c.in_ok-effect.effect) (c.in_ok-cause.ensures read is)
    ∙ ap (λ o. response_by d (condition plant read front) o) (c.in_ok-effect.ensures read is)
    ∙ sym (ap (λ o. option_and_then (λ e. response_by d (condition plant read e.0) (condition plant read e.1)) o) c.in-Some.ensures)
