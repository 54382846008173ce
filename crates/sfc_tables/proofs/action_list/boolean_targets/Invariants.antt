use Rattle.std.proofs.Common.{◌≡◌, drop, ◌++◌}
use Rattle.std.specs.Prelude.{map}
use Rattle.sfc_plant.specs.declared.association.Target.TheVariants as target
use Rattle.sfc_tables.proofs.action_list.boolean_targets.Given as goal

abbrev pub invariant-loop-i : goal.invariant-loop-i
invariant-loop-i l = record {
  rest : l.targets.items ++ map (λ v. target.Boolean v) (drop l.i l.booleans.keys) ≡ map (λ v. target.Boolean v) l.booleans.keys;
}
