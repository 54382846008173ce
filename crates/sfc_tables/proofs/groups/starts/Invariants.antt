use Rattle.std.proofs.Common.{◌≡◌}
use Rattle.std.specs.Prelude.{map}
use Rattle.std.specs.List.{range_with_len}
use Rattle.sfc_tables.specs.Private.Grouping.{first_from}
use Rattle.sfc_tables.proofs.groups.starts.Given as goal

abbrev pub invariant-loop-k : goal.invariant-loop-k
invariant-loop-k l = record {
  done : l.starts.items ≡ map (first_from l.numbers) (range_with_len 0 l.k-counter);
}
