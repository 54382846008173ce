use Rattle.std.proofs.Common.{◌≡◌, ◌∙◌, ◌++◌, ap, subst, ℕ, List}
use Rattle.std.specs.Prelude.{IfOk}
use Rattle.sfc_plant.specs.Plants.{PlantData}
use Rattle.sfc_debug.specs.sfc_core.Agreement.{plant_of}
use Rattle.sfc_script.specs.Lines.{first_word}
use Rattle.sfc_cases.specs.Deeds.{timed_by}
use Rattle.sfc_cases.specs.Lines.{replaced}
use Rattle.sfc_cases.proofs.saying.read_replaced.Goals as goal

pub returns : goal.returns
returns c = λ read is.
    let plant : PlantData = plant_of c.args.resource.now in
    let text : List ℕ = replaced c.args.names.now c.args.line.now in
    let same : c.deref.result.now ≡ text =
    c.deref.ensures.value ∙ c.in_ok-put_replaced.ensures ∙ ap (λ (xs : List ℕ). xs ++ text) c.new-text.ensures.items in
    subst (λ (xs : List ℕ). IfOk c.read_timed.result (λ said. said ≡ timed_by plant read xs (first_word xs))) same (c.read_timed.ensures read is)
