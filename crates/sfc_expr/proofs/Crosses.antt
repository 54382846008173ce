-- Which values may go to another thread: trees of expressions and of statements.
use denote.Param.Send.{IsSend}
use Rattle.std.proofs.Crossing.{Box-send, Vec-send}
use Rattle.sfc_base.proofs.references.StepId.TheSendSync as step_id
use Rattle.sfc_base.proofs.references.Variable.TheSendSync as variable
use Rattle.sfc_base.proofs.value.Value.TheSendSync as value
use Rattle.sfc_base.proofs.var_type.VarType.TheSendSync as var_type
use Rattle.sfc_expr.proofs.expr.Expr.TheLaws.TheKnot as expr
use Rattle.sfc_expr.proofs.operator.Operator.TheSendSync as operator
use Rattle.sfc_expr.proofs.statement.Branch.TheLaws.TheKnot as statement
use Rattle.sfc_expr.specs.contracts.expr.Expr as Expr
use Rattle.sfc_expr.specs.contracts.statement.Statement as Statement

pub expr_send : IsSend (Expr.the_field).row
expr_send = expr.send-Expr value.the_field_send variable.the_field_send step_id.the_field_send Box-send var_type.the_field_send operator.the_field_send

pub statement_send : IsSend (Statement.the_field).row
statement_send = statement.send-Statement expr_send Vec-send variable.the_field_send
