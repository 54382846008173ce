use Rattle.std.proofs.Common.{◌≡◌, ◌∙◌, sym, ap, subst, ℕ, List, Some}
use Rattle.std.specs.Prelude.{IfOk}
use Rattle.sfc_plant.specs.Plants.{PlantData}
use Rattle.sfc_debug.specs.sfc_core.Agreement.{plant_of}
use Rattle.sfc_script.specs.Lines.{first_word}
use Rattle.sfc_cases.specs.Deeds.{deed_by, stirred_by}
use Rattle.sfc_cases.proofs.Tests.{skip}
use Rattle.sfc_cases.proofs.saying.read_deed.Goals as goal

pub returns-else-is_same_word-6 : goal.returns-else-is_same_word-6
returns-else-is_same_word-6 c = λ read is.
    let plant : PlantData = plant_of c.args.resource.now in
    let text : List ℕ = c.args.text.now in
    let w : List ℕ × List ℕ = (c.in-Some.word.now, c.in-Some.behind.now) in
    let first : first_word text ≡ Some w = c.in-Some.ensures in
    let path : deed_by plant read c.args.instant text (first_word text)
    ≡ stirred_by plant read c.args.instant text (first_word text) =
    ap (λ o. deed_by plant read c.args.instant text o) first
    ∙ (skip _ (sym c.is_same_word.ensures ∙ c.if-is_same_word.false)
    (skip _ (sym c.is_same_word-else-is_same_word.ensures ∙ c.if-is_same_word-2.false)
    (skip _ (sym c.is_same_word-else-is_same_word-2.ensures ∙ c.if-is_same_word-3.false)
    (skip _ (sym c.is_same_word-else-is_same_word-3.ensures ∙ c.if-is_same_word-4.false)
    (skip _ (sym c.is_same_word-else-is_same_word-4.ensures ∙ c.if-is_same_word-5.false)
    (skip _ (sym c.is_same_word-else-is_same_word-5.ensures ∙ c.if-is_same_word-6.false)
    (ap (λ o. stirred_by plant read c.args.instant text o) (sym first)))))))) in
    subst (λ o. IfOk c.read_stirred.result (λ said. said ≡ o)) (sym path) (c.read_stirred.ensures read is)
