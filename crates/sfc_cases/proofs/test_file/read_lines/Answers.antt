use Rattle.std.proofs.Common.{◌≡◌, ◌∙◌, sym, ap, subst, ℕ, suc, List, [], ◌∷◌, Err}
use Rattle.std.proofs.lemmas.Result.{err_from_is_err_and}
use Rattle.sfc_plant.specs.Plants.{PlantData}
use Rattle.sfc_debug.specs.sfc_core.Agreement.{plant_of}
use Rattle.sfc_script.specs.Lines.{lines_of}
use Rattle.sfc_cases.specs.declared.named.Named.{Named}
use Rattle.sfc_cases.specs.Answers.{Tells}
use Rattle.sfc_cases.specs.Deeds.{said_of}
use Rattle.sfc_cases.specs.Files.{read_from, read_on}
use Rattle.sfc_cases.specs.Reading.{Behind, onto}
use Rattle.sfc_cases.proofs.Lines.{onto_nothing, tells_refused}
use Rattle.sfc_cases.proofs.test_file.read_lines.Goals as goal

pub returns-in_err-add : goal.returns-in_err-add
returns-in_err-add c = λ read is.
    let plant : PlantData = plant_of c.args.resource.now in
    let n : ℕ = c.lines.number in
    let names : List Named = c.lines.names.items in
    let file = c.lines.file in
    let f = err_from_is_err_and c.from_residual-in_err-add.result c.from_residual-in_err-add.ensures.1 in
    let told : c.from_residual-in_err-add.result ≡ Err c.in_err-add.field-0.0 = f.1 ∙ ap Err f.2 in
    let line : List ℕ = c.in-Some.line.now in
    let behind : Behind = λ named conditions. read_from plant read (suc n) named conditions (lines_of c.in-Some.after.now) in
    let said : c.in_ok-said.said ≡ said_of plant read names line =
    c.in_ok-said.ensures read is ∙ ap (λ (ns : List Named). said_of plant read ns line) c.deref.ensures.value in
    let step : read_from plant read n names file.table.items (lines_of c.lines.rest.now) ≡ read_on n names file.table.items c.in_ok-said.said behind =
    ap (λ (ls : List (List ℕ)). read_from plant read n names file.table.items ls) c.in-Some.ensures.first.0
    ∙ ap (λ s. read_on n names file.table.items s behind) (sym said) in
    subst (λ r. Tells (read_from plant read 1 [] [] (lines_of c.args.bytes.now)) r) (sym told)
    (tells_refused (read_from plant read 1 [] [] (lines_of c.args.bytes.now)) n c.in_ok-said.said names c.add.new.names.items file c.add.new.self behind
    c.in_err-add.field-0.0 (c.lines.invariant.said read is ∙ ap (λ r. onto file.lines.items r) step) c.in_err-add.ensures)

pub returns : goal.returns
returns c = λ read is.
    let plant : PlantData = plant_of c.args.resource.now in
    let file = c.lines.file in
    c.lines.invariant.said read is
    ∙ ap (λ (b : List ℕ). onto file.lines.items (read_from plant read c.lines.number c.lines.names.items file.table.items (lines_of b)))
    c.in_default.ensures.first
    ∙ onto_nothing file.lines.items file.table.items
