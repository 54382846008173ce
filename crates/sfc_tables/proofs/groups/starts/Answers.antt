use Rattle.std.proofs.Common.{◌≡◌, ◌++◌, ◌∷◌, [], true, false, ap, arith, rules}
use Rattle.std.specs.Prelude.{nat_lt}
use Rattle.std.specs.List.Sorted.{IsPartitionPoint}
use Rattle.std.proofs.lemmas.List.FromFn.{map-range_with_len_more}
use Rattle.std.proofs.lemmas.List.Sorted.{IsPartitionPoint-from_clause, IsPartitionedBy-ltb}
use Rattle.sfc_tables.specs.Private.Grouping.{first_from}
use Rattle.sfc_tables.proofs.Groupings.{first_is}
use Rattle.sfc_tables.proofs.groups.starts.Goals as goal

pub loop-k-preserved : goal.loop-k-preserved
loop-k-preserved c =
    let k = c.loop-k.k-counter in
    let numbers = c.args.numbers.now in
    let i = c.partition_point.result in
    let point : IsPartitionPoint (λ y. nat_lt y k ≡ true) (λ y. nat_lt y k ≡ false) numbers i =
    IsPartitionPoint-from_clause (λ y. nat_lt y k) numbers i c.partition_point.ensures.partitioned
    (IsPartitionedBy-ltb (λ y. y) numbers k c.requires.sorted) (λ a r f' called. search rules) in
    let first : first_from numbers k ≡ i = first_is numbers k i c.partition_point.ensures.bound point in
    record {
      done =
          rw (c.in_ok-push.ensures.items, map-range_with_len_more (first_from numbers) 0 k k (omega arith), first)
          (ap (λ l. l ++ i ∷ []) c.loop-k.invariant.done);
    }
