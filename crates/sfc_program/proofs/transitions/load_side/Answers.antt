use Rattle.std.proofs.Common.{ap}
use Rattle.std.proofs.lemmas.Result.{err_from_is_err_and}
use Rattle.sfc_program.specs.Loading.{side_step_check, side_check}
use Rattle.sfc_program.specs.Built.{step_id, step_ids}
use Rattle.sfc_program.proofs.Turns.{turn_on, turn_fails, put_on}
use Rattle.sfc_program.proofs.transitions.load_side.Goals as goal

pub returns-in_err-add_side_step : goal.returns-in_err-add_side_step
returns-in_err-add_side_step c =
    let p = err_from_is_err_and c.from_residual.result c.from_residual.ensures.1 in
    rw (p.1, p.2)
    (turn_fails (side_step_check c.args.scope.now.steps) c.in_err-add_side_step.field-0.0
    (side_check c.args.scope.now.steps c.args.names.now) c.names.seen c.names.rest.now c.in-Some.after.now c.in-Some.name.now
    c.names.invariant.checked c.in-Some.ensures.cases.0 c.in_err-add_side_step.ensures.loads)

pub names-preserved : goal.names-preserved
names-preserved c = record {
  checked =
      turn_on (side_step_check c.args.scope.now.steps) (side_check c.args.scope.now.steps c.args.names.now)
      c.names.seen c.add_side_step.new.seen c.names.rest.now c.in-Some.after.now c.in-Some.name.now
      c.names.invariant.checked c.in-Some.ensures.cases.0 c.in_ok-add_side_step.ensures.loads.0 c.in_ok-add_side_step.ensures.named;
  built =
      put_on (step_ids c.args.scope.now.steps c.args.names.now) c.names.loaded.items c.add_side_step.new.loaded.items
      (step_ids c.args.scope.now.steps c.names.rest.now) (step_ids c.args.scope.now.steps c.in-Some.after.now)
      (step_id c.args.scope.now.steps c.in-Some.name.now)
      c.names.invariant.built (ap (step_ids c.args.scope.now.steps) c.in-Some.ensures.cases.0) c.in_ok-add_side_step.ensures.added;
}
