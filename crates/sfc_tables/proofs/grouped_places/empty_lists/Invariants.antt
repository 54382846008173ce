use Rattle.std.proofs.Common.{◌≡◌, [], length}
use Rattle.std.specs.Prelude.{All}
use Rattle.sfc_tables.proofs.grouped_places.empty_lists.Given as goal

abbrev pub invariant-loop-k : goal.invariant-loop-k
invariant-loop-k l = record {
  len : length l.lists.items ≡ l._k;
  empty : All (λ list. list.items ≡ []) l.lists.items;
}
