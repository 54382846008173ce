use Rattle.std.proofs.Common.{◌≡◌, sym, ap, subst, ℕ, List}
use Rattle.std.specs.Prelude.{IfOk}
use Rattle.std.specs.Option.{option_and_then}
use Rattle.sfc_plant.specs.Plants.{PlantData}
use Rattle.sfc_cases.specs.Deeds.{duration_of, responded, response_of}
use Rattle.sfc_cases.proofs.watching.read_response.Goals as goal

pub returns-in-Some : goal.returns-in-Some
returns-in-Some c = λ read is.
    let plant : PlantData = c.args.plant.now in
    let text : List ℕ = c.args.text.now in
    let behind : List ℕ = c.in-Some.behind.now in
    let path : response_of plant read text ≡ responded plant read (duration_of c.in-Some.front.now) behind =
    ap (λ o. option_and_then (λ a. responded plant read (duration_of a.0) a.1) o) c.in-Some.ensures in
    subst (λ o. IfOk c.responded.result (λ deed. deed ≡ o)) (sym path)
    (subst (λ d. IfOk c.responded.result (λ deed. deed ≡ responded plant read d behind)) c.duration_of.ensures (c.responded.ensures read is))
