use Rattle.std.proofs.Common.{◌≡◌, ◌++◌, ◌+◌, ◌≤◌, drop, length}
use Rattle.std.specs.Prelude.{sum_by}
use Rattle.sfc_base.specs.declared.limits.TheConstants.{ASSOCIATIONS}
use Rattle.sfc_tables.specs.Tables.{in_text, numbered}
use Rattle.sfc_tables.proofs.action_blocks.list_associations.Given as goal

abbrev pub invariant-loop-s : goal.invariant-loop-s
invariant-loop-s l = record {
  rest : l.associations.items ++ numbered l.actions (length l.associations.items) (in_text l.s (drop l.s l.steps))
      ≡ numbered l.actions 0 (in_text 0 l.steps);
  few : length l.associations.items + sum_by (λ step. length step.associations) (drop l.s l.steps) ≤ ASSOCIATIONS;
}
