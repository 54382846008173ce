use Rattle.std.proofs.Common.{◌≡◌, ◌∙◌, refl, sym, ap, subst, ℕ, List, Some}
use Rattle.std.specs.Prelude.{IfOk, option_and_then}
use Rattle.sfc_plant.specs.Plants.{PlantData}
use Rattle.sfc_debug.specs.sfc_core.Agreement.{plant_of}
use Rattle.sfc_script.specs.Lines.{first_word}
use Rattle.sfc_cases.specs.Deeds.{expected_by, expected_of, stated}
use Rattle.sfc_cases.proofs.Tests.{skip}
use Rattle.sfc_cases.proofs.expecting.read_expected.Goals as goal

pub returns-else-is_same_word-3 : goal.returns-else-is_same_word-3
returns-else-is_same_word-3 c = λ read is.
    let plant : PlantData = plant_of c.args.resource.now in
    let text : List ℕ = c.args.text.now in
    let w : List ℕ × List ℕ = (c.in-Some.word.now, c.in-Some.behind.now) in
    let first : first_word text ≡ Some w = c.in-Some.ensures in
    let path : expected_of plant read text ≡ stated plant read text =
    ap (λ o. option_and_then (expected_by plant read text) o) first
    ∙ skip _ (sym c.is_same_word.ensures ∙ c.if-is_same_word.false)
    (skip _ (sym c.is_same_word-else-is_same_word.ensures ∙ c.if-is_same_word-2.false)
    (skip _ (sym c.is_same_word-else-is_same_word-2.ensures ∙ c.if-is_same_word-3.false) refl)) in
    subst (λ o. IfOk c.stated.result (λ deed. deed ≡ o)) (sym path)
    (subst (λ (p : PlantData). IfOk c.stated.result (λ deed. deed ≡ stated p read text)) c.plant-else-is_same_word-3.ensures
    (c.stated.ensures read is))
