use Rattle.std.proofs.Common.{◌≡◌, ◌+◌, ◌≤◌, drop}
use Rattle.sfc_expr.specs.Trees.{body_of}
use Rattle.sfc_expr.specs.Effect.{effect}
use Rattle.sfc_expr.specs.Nodes.{body_nodes}
use Rattle.sfc_image.specs.BodyFaults.{statements_done}
use Rattle.sfc_image.proofs.finding.find_statement.Given as goal

abbrev pub invariant-loop-k : goal.invariant-loop-k
invariant-loop-k g l = record {
  rest : effect (body_of (drop l.k l.statements)) (g.S.View.environment l.store)
      ≡ effect (body_of l.statements) (g.S.View.environment l.initial.store);
  count : l.k + statements_done (body_of (drop l.k l.statements)) (g.S.View.environment l.store)
      ≡ statements_done (body_of l.statements) (g.S.View.environment l.initial.store);
  reached : g.S.Store.reaches l.initial.store l.store;
  rises : l.initial.ticks.count ≤ l.ticks.count;
  ticks : l.ticks.count + body_nodes (body_of (drop l.k l.statements)) ≤ l.initial.ticks.count + body_nodes (body_of l.statements);
}
