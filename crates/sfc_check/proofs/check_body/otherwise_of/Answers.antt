use Rattle.sfc_expr.specs.Trees.{NoBranch}
use Rattle.sfc_expr.proofs.Rows.{tried_before-otherwise}
use Rattle.sfc_check.proofs.check_body.otherwise_of.Goals as goal

pub returns : goal.returns
returns c = tried_before-otherwise c.args.body NoBranch
