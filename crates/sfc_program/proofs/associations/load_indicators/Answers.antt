use Rattle.std.proofs.Common.{map}
use Rattle.std.proofs.lemmas.Result.{err_from_is_err_and}
use Rattle.sfc_variables.specs.Checks.{each}
use Rattle.sfc_program.specs.Loading.{indicator_check}
use Rattle.sfc_program.specs.Built.{variable_in}
use Rattle.sfc_program.proofs.Turns.{each_on, each_fails, built_on}
use Rattle.sfc_program.proofs.associations.load_indicators.Goals as goal

pub returns-in_err-add_indicator : goal.returns-in_err-add_indicator
returns-in_err-add_indicator c =
    let p = err_from_is_err_and c.from_residual.result c.from_residual.ensures.1 in
    rw (p.1, p.2)
    (each_fails (indicator_check c.args.scope.now) c.in_err-add_indicator.field-0.0 (each (indicator_check c.args.scope.now) c.args.names.now)
    c.names.rest.now c.in-Some.after.now c.in-Some.name.now
    c.names.invariant.checked c.in-Some.ensures.cases.0 c.in_err-add_indicator.ensures.loads)

pub names-preserved : goal.names-preserved
names-preserved c =
    record {
      checked =
          each_on (indicator_check c.args.scope.now) (each (indicator_check c.args.scope.now) c.args.names.now)
          c.names.rest.now c.in-Some.after.now c.in-Some.name.now
          c.names.invariant.checked c.in-Some.ensures.cases.0 c.in_ok-add_indicator.ensures.loads.0;
      built =
          built_on (variable_in c.args.scope.now) (map (variable_in c.args.scope.now) c.args.names.now)
          c.names.loaded.items c.add_indicator.new.loaded.items
          c.names.rest.now c.in-Some.after.now c.in-Some.name.now
          c.names.invariant.built c.in-Some.ensures.cases.0 c.in_ok-add_indicator.ensures.added;
    }
