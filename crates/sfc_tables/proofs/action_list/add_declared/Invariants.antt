use Rattle.std.proofs.Common.{◌≡◌, ◌++◌}
use Rattle.sfc_tables.specs.Actions.{declared_actions}
use Rattle.sfc_tables.proofs.action_list.add_declared.Given as goal

abbrev pub invariant-loop-i : goal.invariant-loop-i
invariant-loop-i l = record {
  done : l.targets.items ≡ l.initial.targets.items ++ declared_actions l.i;
}
