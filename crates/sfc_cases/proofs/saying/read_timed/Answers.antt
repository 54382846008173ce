use Rattle.std.proofs.Common.{◌≡◌, ◌∙◌, sym, ap, subst, ℕ, List, Some, None}
use Rattle.std.specs.Prelude.{IfOk}
use Rattle.sfc_plant.specs.Plants.{PlantData}
use Rattle.sfc_debug.specs.sfc_core.Agreement.{plant_of}
use Rattle.sfc_script.specs.Lines.{first_word}
use Rattle.sfc_cases.specs.declared.instant.Instant.TheVariants.{Same}
use Rattle.sfc_cases.specs.Deeds.{deed_by, timed_at, timed_by}
use Rattle.sfc_cases.specs.Lines.{instant_of}
use Rattle.sfc_cases.proofs.saying.read_timed.Goals as goal

pub returns-in-Some-read_instant : goal.returns-in-Some-read_instant
returns-in-Some-read_instant c = λ read is.
    let plant : PlantData = plant_of c.args.resource.now in
    let text : List ℕ = c.args.text.now in
    let rest : List ℕ = c.in-Some.behind.now in
    let w : List ℕ × List ℕ = (c.in-Some.word.now, rest) in
    let first : first_word text ≡ Some w = c.in-Some.ensures in
    let instant : instant_of c.in-Some.word.now ≡ Some c.in-Some-read_instant.instant = sym c.read_instant.ensures ∙ c.in-Some-read_instant.is in
    let path : timed_by plant read text (first_word text) ≡ deed_by plant read c.in-Some-read_instant.instant rest (first_word rest) =
    ap (λ o. timed_by plant read text o) first ∙ ap (λ o. timed_at plant read text rest o) instant in
    subst (λ o. IfOk c.read_deed.result (λ said. said ≡ o)) (sym path) (c.read_deed.ensures read is)

pub returns-in-None : goal.returns-in-None
returns-in-None c = λ read is.
    let plant : PlantData = plant_of c.args.resource.now in
    let text : List ℕ = c.args.text.now in
    let rest : List ℕ = c.in-Some.behind.now in
    let w : List ℕ × List ℕ = (c.in-Some.word.now, rest) in
    let first : first_word text ≡ Some w = c.in-Some.ensures in
    let instant : instant_of c.in-Some.word.now ≡ None = sym c.read_instant.ensures ∙ c.in-None.is in
    let path : timed_by plant read text (first_word text) ≡ deed_by plant read Same text (first_word text) =
    ap (λ o. timed_by plant read text o) first ∙ ap (λ o. timed_at plant read text rest o) instant in
    subst (λ o. IfOk c.read_deed-in-None.result (λ said. said ≡ o)) (sym path) (c.read_deed-in-None.ensures read is)
