use Rattle.std.proofs.Common.{◌≡◌, ◌++◌, drop}
use Rattle.std.specs.Prelude.{map}
use Rattle.sfc_tables.proofs.Rankings.{pairs, place_of}
use Rattle.sfc_tables.proofs.rank.rank_order.Given as goal

abbrev pub invariant-loop-i : goal.invariant-loop-i
invariant-loop-i l = record {
  rest : l.keyed.items ++ pairs l.i (map (λ t. t.priority) (drop l.i l.transitions)) ≡ pairs 0 (map (λ t. t.priority) l.transitions);
}

abbrev pub invariant-loop-pair : goal.invariant-loop-pair
invariant-loop-pair l = record {
  rest : l.ranked.items ++ map place_of (drop l.pair-index l.pair-items) ≡ map place_of l.pair-items;
}
