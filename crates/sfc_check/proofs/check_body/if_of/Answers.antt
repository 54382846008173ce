use Rattle.sfc_expr.specs.Trees.{Nothing}
use Rattle.sfc_expr.proofs.Rows.{before-if}
use Rattle.sfc_check.proofs.check_body.if_of.Goals as goal

pub returns : goal.returns
returns c = before-if c.args.branches Nothing
