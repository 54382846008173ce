use Rattle.std.proofs.Common.{◌≡◌, ◌++◌, ◌+◌, drop, length}
use Rattle.std.specs.Prelude.{map}
use Rattle.sfc_tables.specs.Tables.{numbered}
use Rattle.sfc_tables.proofs.action_blocks.add_step.Given as goal

abbrev pub invariant-loop-association : goal.invariant-loop-association
invariant-loop-association l = record {
  rest : l.associations.items
      ++ numbered l.actions (length l.associations.items) (map (λ association. (l.step, association)) (drop l.association-index l.block))
      ≡ l.initial.associations.items
      ++ numbered l.actions (length l.initial.associations.items) (map (λ association. (l.step, association)) l.block);
  long : length l.associations.items ≡ length l.initial.associations.items + l.association-index;
}
