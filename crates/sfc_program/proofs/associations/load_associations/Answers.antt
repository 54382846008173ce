use Rattle.std.proofs.Common.{map}
use Rattle.std.proofs.lemmas.Result.{err_from_is_err_and}
use Rattle.sfc_variables.specs.Checks.{each}
use Rattle.sfc_program.specs.Loading.{association_check}
use Rattle.sfc_program.specs.Built.{association_of}
use Rattle.sfc_program.proofs.Turns.{each_on, each_fails, built_on}
use Rattle.sfc_program.proofs.associations.load_associations.Goals as goal

pub returns-in_err-add_association : goal.returns-in_err-add_association
returns-in_err-add_association c =
    let p = err_from_is_err_and c.from_residual.result c.from_residual.ensures.1 in
    rw (p.1, p.2)
    (each_fails (association_check c.args.scope.now) c.in_err-add_association.field-0.0 (each (association_check c.args.scope.now) c.args.associations.now)
    c.associations.rest.now c.in-Some.after.now c.in-Some.association.now
    c.associations.invariant.checked c.in-Some.ensures.cases.0 c.in_err-add_association.ensures.loads)

pub associations-preserved : goal.associations-preserved
associations-preserved c =
    record {
      checked =
          each_on (association_check c.args.scope.now) (each (association_check c.args.scope.now) c.args.associations.now)
          c.associations.rest.now c.in-Some.after.now c.in-Some.association.now
          c.associations.invariant.checked c.in-Some.ensures.cases.0 c.in_ok-add_association.ensures.loads.0;
      built =
          built_on (association_of c.args.scope.now) (map (association_of c.args.scope.now) c.args.associations.now)
          c.associations.loaded.items c.add_association.new.loaded.items
          c.associations.rest.now c.in-Some.after.now c.in-Some.association.now
          c.associations.invariant.built c.in-Some.ensures.cases.0 c.in_ok-add_association.ensures.added;
    }
