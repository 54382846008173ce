use Rattle.sfc_expr.specs.Trees.{NoBranch}
use Rattle.sfc_expr.proofs.Rows.{tried_before-when}
use Rattle.sfc_check.proofs.check_body.when_of.Goals as goal

pub returns : goal.returns
returns c = tried_before-when c.args.condition c.args.body NoBranch
