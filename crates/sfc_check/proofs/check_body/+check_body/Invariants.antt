use Rattle.std.proofs.Common.{◌≡◌, drop}
use Rattle.sfc_text.specs.Trees as text
use Rattle.sfc_expr.specs.Trees.{body_of, branches_of}
use Rattle.sfc_check.specs.Checking.{checked_body, checked_branches}
use Rattle.sfc_check.proofs.Checks.{behind_body, behind_branches}
use Rattle.sfc_check.proofs.check_body.+check_body.Given as goal

abbrev pub invariant-check_body-loop-statement : goal.invariant-check_body-loop-statement
invariant-check_body-loop-statement g l =
    behind_body (body_of l.checked.items) (checked_body (g.S.Scope.names l.scope) (text.block_of (drop l.statement-index l.statements)))
    ≡ checked_body (g.S.Scope.names l.scope) (text.block_of l.statements)

abbrev pub invariant-check_branches-loop-branch : goal.invariant-check_branches-loop-branch
invariant-check_branches-loop-branch g l =
    behind_branches (branches_of l.checked.items) (checked_branches (g.S.Scope.names l.scope) (text.branches_of (drop l.branch-index l.branches)))
    ≡ checked_branches (g.S.Scope.names l.scope) (text.branches_of l.branches)
