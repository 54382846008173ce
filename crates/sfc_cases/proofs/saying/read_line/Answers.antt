use Rattle.std.proofs.Common.{◌≡◌, ◌∙◌, refl, sym, ap, subst, ℕ, List, Some}
use Rattle.std.specs.Prelude.{IfOk}
use Rattle.sfc_plant.specs.Plants.{PlantData}
use Rattle.sfc_debug.specs.sfc_core.Agreement.{plant_of}
use Rattle.sfc_script.specs.Lines.{first_word}
use Rattle.sfc_cases.specs.declared.named.Named.{Named}
use Rattle.sfc_cases.specs.Deeds.{said_by, said_of, timed_by}
use Rattle.sfc_cases.specs.Lines.{replaced}
use Rattle.sfc_cases.proofs.Tests.{skip}
use Rattle.sfc_cases.proofs.saying.read_line.Goals as goal

pub returns-else-is_same_word-2 : goal.returns-else-is_same_word-2
returns-else-is_same_word-2 c = λ read is.
    let plant : PlantData = plant_of c.args.resource.now in
    let names : List Named = c.args.names.now in
    let line : List ℕ = c.args.line.now in
    let w : List ℕ × List ℕ = (c.in-Some.word.now, c.in-Some.behind.now) in
    let first : first_word line ≡ Some w = c.in-Some.ensures in
    let path : said_of plant read names line ≡ timed_by plant read (replaced names line) (first_word (replaced names line)) =
    ap (λ o. said_by plant read names line o) first
    ∙ (skip _ (sym c.begins_comment.ensures ∙ c.if-begins_comment.false)
    (skip _ (sym c.is_same_word.ensures ∙ c.if-is_same_word.false)
    (skip _ (sym c.is_same_word-else-is_same_word.ensures ∙ c.if-is_same_word-2.false) refl))) in
    subst (λ o. IfOk c.read_replaced.result (λ said. said ≡ o)) (sym path) (c.read_replaced.ensures read is)
