use Rattle.std.proofs.Common.{refl, ◌∷◌, []}
use Rattle.sfc_debug.specs.Agreement.{plant_of, table_of}
use Rattle.sfc_debug.proofs.Longer.{longer_agrees, same_agrees, if_err}
use Rattle.sfc_debug.proofs.debugger.Debugger.add_condition.Goals as goal

pub returns-clause-agrees : goal.returns-clause-agrees
unfolding plant_of table_of
returns-clause-agrees c h named agrees =
    longer_agrees c.args.self.now _ h refl refl refl refl (c.args.condition ∷ []) c.in_ok-push.ensures.items named agrees

pub returns-in_err-push-clause-err_agrees : goal.returns-in_err-push-clause-err_agrees
unfolding plant_of table_of
returns-in_err-push-clause-err_agrees c h agrees =
    if_err c.from_residual.result _ (same_agrees c.args.self.now _ h refl refl refl refl c.in_err-push.ensures.items agrees)
