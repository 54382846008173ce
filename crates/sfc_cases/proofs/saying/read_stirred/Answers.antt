use Rattle.std.proofs.Common.{◌≡◌, ◌∙◌, refl, sym, ap, subst, ℕ, List, Some}
use Rattle.std.specs.Prelude.{IfOk}
use Rattle.sfc_plant.specs.Plants.{PlantData}
use Rattle.sfc_debug.specs.sfc_core.Agreement.{plant_of}
use Rattle.sfc_script.specs.Commands.{command_of, conditional_of}
use Rattle.sfc_script.specs.Lines.{first_word}
use Rattle.sfc_cases.specs.Deeds.{given_by, stirred_by}
use Rattle.sfc_cases.proofs.Tests.{skip}
use Rattle.sfc_cases.proofs.saying.read_stirred.Goals as goal

pub returns-else-is_same_word-3 : goal.returns-else-is_same_word-3
returns-else-is_same_word-3 c = λ read is.
    let plant : PlantData = plant_of c.args.resource.now in
    let text : List ℕ = c.args.text.now in
    let w : List ℕ × List ℕ = (c.in-Some.word.now, c.in-Some.behind.now) in
    let first : first_word text ≡ Some w = c.in-Some.ensures in
    let path : stirred_by plant read c.args.instant text (first_word text)
    ≡ given_by plant read c.args.instant (command_of plant text) (conditional_of plant text) =
    ap (λ o. stirred_by plant read c.args.instant text o) first
    ∙ (skip _ (sym c.is_same_word.ensures ∙ c.if-is_same_word.false)
    (skip _ (sym c.is_same_word-else-is_same_word.ensures ∙ c.if-is_same_word-2.false)
    (skip _ (sym c.is_same_word-else-is_same_word-2.ensures ∙ c.if-is_same_word-3.false)
    refl))) in
    subst (λ o. IfOk c.read_given.result (λ said. said ≡ o)) (sym path) (c.read_given.ensures read is)
