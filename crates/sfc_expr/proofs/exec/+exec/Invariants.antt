use Rattle.std.proofs.Common.{◌≡◌, ◌+◌, ◌≤◌, drop}
use Rattle.sfc_expr.specs.Trees.{body_of, branches_of}
use Rattle.sfc_expr.specs.Effect.{effect, branch_effect}
use Rattle.sfc_expr.specs.Nodes.{body_nodes, branch_nodes}
use Rattle.sfc_expr.proofs.exec.+exec.Given as goal

abbrev pub invariant-exec-loop-statement : goal.invariant-exec-loop-statement
invariant-exec-loop-statement g l = record {
  rest : effect (body_of (drop l.statement-index l.statements)) (g.S.View.environment l.store) ≡ effect (body_of l.statements) (g.S.View.environment l.initial.store);
  reached : g.S.Store.reaches l.initial.store l.store;
  rises : l.initial.ticks.count ≤ l.ticks.count;
  ticks : l.ticks.count + body_nodes (body_of (drop l.statement-index l.statements)) ≤ l.initial.ticks.count + body_nodes (body_of l.statements);
}

abbrev pub invariant-exec_first-loop-branch : goal.invariant-exec_first-loop-branch
invariant-exec_first-loop-branch g l = record {
  rest : branch_effect (branches_of (drop l.branch-index l.branches)) (g.S.View.environment l.store) ≡ branch_effect (branches_of l.branches) (g.S.View.environment l.initial.store);
  reached : g.S.Store.reaches l.initial.store l.store;
  rises : l.initial.ticks.count ≤ l.ticks.count;
  ticks : l.ticks.count + branch_nodes (branches_of (drop l.branch-index l.branches)) ≤ l.initial.ticks.count + branch_nodes (branches_of l.branches);
}
