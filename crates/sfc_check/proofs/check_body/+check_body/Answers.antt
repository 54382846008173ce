use Rattle.std.proofs.Common.{arith, subst, sym}
use Rattle.sfc_expr.specs.Trees.{Nothing, before, body_of, branches_of}
use Rattle.sfc_check.specs.Checking.{checked_body}
use Rattle.sfc_check.specs.TypeFaults.{Gives}
use Rattle.sfc_check.proofs.Checks.{all_checked, all_branches, statements, branches, as_if, parts}
use Rattle.sfc_check.proofs.check_body.+check_body.Goals as goal

pub check_body-returns : goal.check_body-returns
check_body-returns g t c = all_checked (g.S.Scope.names c.args.scope.now) c.args.statements.now c.loop-statement.statement-index (body_of c.loop-statement.checked.items) _ c.loop-statement.invariant c.loop-statement-test.false

pub check_branches-returns : goal.check_branches-returns
check_branches-returns g t c = all_branches (g.S.Scope.names c.args.scope.now) c.args.branches.now c.loop-branch.branch-index (branches_of c.loop-branch.checked.items) _ c.loop-branch.invariant c.loop-branch-test.false

pub check_body-loop-statement-preserved : goal.check_body-loop-statement-preserved
check_body-loop-statement-preserved g t c = grind (arith, statements)

pub check_body-returns-in_err-check_statement : goal.check_body-returns-in_err-check_statement
check_body-returns-in_err-check_statement g t c = grind (arith, statements)

pub check_branches-loop-branch-preserved : goal.check_branches-loop-branch-preserved
check_branches-loop-branch-preserved g t c = grind (arith, branches)

pub check_branches-returns-in_err-check_branch : goal.check_branches-returns-in_err-check_branch
check_branches-returns-in_err-check_branch g t c = grind (arith, branches)

pub check_statement-returns-in-If : goal.check_statement-returns-in-If
check_statement-returns-in-If g t c =
    subst (λ block. Gives (λ s. before s Nothing) c.check_if.result (checked_body (g.S.Scope.names c.args.scope.now) block))
    (sym (as_if c.args.statement.now c.in-If.branches c.in-If.field-1 c.deref.result.now c.in-If.is c.deref.ensures.value)) c.check_if.ensures

pub check_branch-returns-in-When : goal.check_branch-returns-in-When
check_branch-returns-in-When g t c = grind (arith, parts)

pub check_branch-returns-in-Otherwise : goal.check_branch-returns-in-Otherwise
check_branch-returns-in-Otherwise g t c = grind (arith, parts)
