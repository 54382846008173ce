use Rattle.std.proofs.Common.{◌≡◌, ap, sym, ◌∙◌, arith, rules}
use Rattle.sfc_expr.specs.Trees.{branches_of}
use Rattle.sfc_expr.specs.Effect.{BodyEffect, ended, branch_effect}
use Rattle.sfc_expr.proofs.Effects.{finished, tried_all, passed, faulted, nodes-when, as_branches, first_branch, ifs}
use Rattle.sfc_expr.proofs.exec.+exec.Goals as goal

pub exec-returns-clause-result : goal.exec-returns-clause-result
exec-returns-clause-result g t c = ap (λ (o : BodyEffect). o.result) (sym (finished _ _ _ _ c.loop-statement.invariant.rest c.loop-statement-test.false))

pub exec-returns-clause-after : goal.exec-returns-clause-after
exec-returns-clause-after g t c = ap (λ (o : BodyEffect). o.environment) (sym (finished _ _ _ _ c.loop-statement.invariant.rest c.loop-statement-test.false))

pub exec-returns-clause-ticks : goal.exec-returns-clause-ticks
exec-returns-clause-ticks g t c = (omega arith, omega arith)

pub exec_statement-returns-in-If-clause-result : goal.exec_statement-returns-in-If-clause-result
exec_statement-returns-in-If-clause-result g t c = c.exec_first.ensures.result ∙ ap (λ (o : BodyEffect). o.result) (sym (as_branches c.args.statement.now c.in-If.branches c.in-If.is _ c.deref.ensures.value _))

pub exec_statement-returns-in-If-clause-after : goal.exec_statement-returns-in-If-clause-after
exec_statement-returns-in-If-clause-after g t c = c.exec_first.ensures.after ∙ ap (λ (o : BodyEffect). o.environment) (sym (as_branches c.args.statement.now c.in-If.branches c.in-If.is _ c.deref.ensures.value _))

pub exec_statement-returns-in-If-clause-ticks : goal.exec_statement-returns-in-If-clause-ticks
exec_statement-returns-in-If-clause-ticks g t c = grind (arith, ifs)

pub exec_first-returns-clause-result : goal.exec_first-returns-clause-result
exec_first-returns-clause-result g t c = ap (λ (o : BodyEffect). o.result) (sym (tried_all _ _ _ _ c.loop-branch.invariant.rest c.loop-branch-test.false))

pub exec_first-returns-clause-after : goal.exec_first-returns-clause-after
exec_first-returns-clause-after g t c = ap (λ (o : BodyEffect). o.environment) (sym (tried_all _ _ _ _ c.loop-branch.invariant.rest c.loop-branch-test.false))

pub exec_first-returns-then-is_true-clause-result : goal.exec_first-returns-then-is_true-clause-result
exec_first-returns-then-is_true-clause-result g t c = grind (arith, first_branch)

pub exec_first-returns-then-is_true-clause-after : goal.exec_first-returns-then-is_true-clause-after
exec_first-returns-then-is_true-clause-after g t c = grind (arith, first_branch)

pub exec_first-returns-then-is_true-clause-ticks : goal.exec_first-returns-then-is_true-clause-ticks
exec_first-returns-then-is_true-clause-ticks g t c = grind (arith, first_branch)

pub exec_first-returns-in_err-eval-in-When-clause-after : goal.exec_first-returns-in_err-eval-in-When-clause-after
exec_first-returns-in_err-eval-in-When-clause-after g t c = ap (λ (o : BodyEffect). o.environment) (sym (faulted c.args.branches.now c.loop-branch.branch-index c.branch-item.result c.loop-branch-test.true c.branch-item.is c.in-When.condition c.in-When.body c.in-When.is _ c.in_err-eval-in-When.field-0.0 c.in_err-eval-in-When.ensures.value _ c.loop-branch.invariant.rest))

pub exec_first-returns-in_err-eval-in-When-clause-ticks : goal.exec_first-returns-in_err-eval-in-When-clause-ticks
exec_first-returns-in_err-eval-in-When-clause-ticks g t c = let n = nodes-when c.args.branches.now c.loop-branch.branch-index c.branch-item.result c.loop-branch-test.true c.branch-item.is c.in-When.condition c.in-When.body c.in-When.is in (omega (arith, c.in_err-eval-in-When.ensures.ticks.0), omega (arith, c.in_err-eval-in-When.ensures.ticks.1))

pub exec_first-loop-branch-preserved : goal.exec_first-loop-branch-preserved
exec_first-loop-branch-preserved g t c = let n = nodes-when c.args.branches.now c.loop-branch.branch-index c.branch-item.result c.loop-branch-test.true c.branch-item.is c.in-When.condition c.in-When.body c.in-When.is in record {
  rest = passed c.args.branches.now c.loop-branch.branch-index c.branch-item.result c.loop-branch-test.true c.branch-item.is c.in-When.condition c.in-When.body c.in-When.is (g.S.View.environment c.loop-branch.store) c.in_ok-eval-in-When.field-0 c.in_ok-eval-in-When.ensures.value (sym c.if-is_true.ensures) (branch_effect (branches_of c.args.branches.now) (g.S.View.environment c.args.store.now)) c.loop-branch.invariant.rest;
  reached = c.loop-branch.invariant.reached;
  rises = omega (arith, c.in_ok-eval-in-When.ensures.ticks.0);
  ticks = omega (arith, c.in_ok-eval-in-When.ensures.ticks.1);
}

pub exec_first-returns-in-Otherwise-clause-result : goal.exec_first-returns-in-Otherwise-clause-result
exec_first-returns-in-Otherwise-clause-result g t c = grind (arith, first_branch)

pub exec_first-returns-in-Otherwise-clause-after : goal.exec_first-returns-in-Otherwise-clause-after
exec_first-returns-in-Otherwise-clause-after g t c = grind (arith, first_branch)

pub exec_first-returns-in-Otherwise-clause-ticks : goal.exec_first-returns-in-Otherwise-clause-ticks
exec_first-returns-in-Otherwise-clause-ticks g t c = grind (arith, first_branch)

pub exec_first-returns-clause-ticks : goal.exec_first-returns-clause-ticks
exec_first-returns-clause-ticks g t c = (omega arith, omega arith)

pub exec_first-returns-in_err-eval-in-When-clause-result : goal.exec_first-returns-in_err-eval-in-When-clause-result
exec_first-returns-in_err-eval-in-When-clause-result g t c = let f : branch_effect (branches_of c.args.branches.now) (g.S.View.environment c.args.store.now) ≡ ended (g.S.View.environment c.loop-branch.store) c.in_err-eval-in-When.field-0.0 = faulted c.args.branches.now c.loop-branch.branch-index c.branch-item.result c.loop-branch-test.true c.branch-item.is c.in-When.condition c.in-When.body c.in-When.is (g.S.View.environment c.loop-branch.store) c.in_err-eval-in-When.field-0.0 c.in_err-eval-in-When.ensures.value (branch_effect (branches_of c.args.branches.now) (g.S.View.environment c.args.store.now)) c.loop-branch.invariant.rest in rw f (search rules)
