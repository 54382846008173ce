use Rattle.std.proofs.Common.{◌≡◌, length, map, ap, sym, subst, arith}
use Rattle.std.proofs.lemmas.List.{length-map}
use Rattle.std.proofs.lemmas.Result.{err_from_is_err_and}
use Rattle.sfc_text.specs.Trees.{element_of}
use Rattle.sfc_variables.specs.Checks.{Check, Loads, ◌then◌}
use Rattle.sfc_variables.proofs.Checks.{passes, fails_first}
use Rattle.sfc_program.specs.Elements.{steps_of, step_names, action_names}
use Rattle.sfc_program.specs.Loading.{distinct_check, element_names, initial_check, chart_check}
use Rattle.sfc_program.specs.Built.{chart_of}
use Rattle.sfc_plant.specs.Spaces.{Space}
use Rattle.sfc_program.proofs.load.load_elements.Goals as goal

pub returns-in_err-names : goal.returns-in_err-names
returns-in_err-names c =
    let p = err_from_is_err_and c.from_residual.result c.from_residual.ensures.1 in
    rw (p.1, p.2)
    (fails_first c.in_err-names.field-0.0
    (distinct_check c.args.space.now (element_names (map element_of c.args.elements.now)))
    _
    c.in_err-names.ensures.loads)

pub returns : goal.returns
returns c =
    let known : Space = record {
      globals = c.args.globals.now;
      locals = c.args.locals.now;
      steps = c.in_ok-names.names.steps;
      actions = c.in_ok-names.names.actions;
    } in
    let space : Space = record {
      globals = c.args.globals.now;
      locals = c.args.locals.now;
      steps = step_names (map element_of c.args.elements.now);
      actions = action_names (map element_of c.args.elements.now);
    } in
    let same : known ≡ space = λ i. record {
      globals = c.args.globals.now;
      locals = c.args.locals.now;
      steps = c.in_ok-names.ensures.loads.1 i;
      actions = c.in_ok-names.ensures.actions i;
    } in
    subst (λ (check : Check). Loads (λ chart. chart) c.load_named.result check (chart_of space (map element_of c.args.elements.now)))
    (sym (passes (distinct_check c.args.space.now (element_names (map element_of c.args.elements.now))) _ c.in_ok-names.ensures.loads.0))
    (subst
    (λ (s : Space). Loads (λ chart. chart) c.load_named.result
    (initial_check (map element_of c.args.elements.now) then chart_check s (map element_of c.args.elements.now))
    (chart_of s (map element_of c.args.elements.now)))
    same
    c.load_named.ensures)

pub load_named-requires : goal.load_named-requires
load_named-requires c =
    let named : length (step_names (map element_of c.args.elements.now)) ≡ length (steps_of (map element_of c.args.elements.now)) =
    length-map (steps_of (map element_of c.args.elements.now)) (λ s. s.name) in
    omega (arith, ap length c.in_ok-names.ensures.loads.1, named, c.requires)
