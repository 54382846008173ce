use Rattle.std.proofs.Common.{◌≡◌, ◌∙◌, ap, arith, subst, List, ℕ}
use Rattle.std.specs.Prelude.{map, Option}
use Rattle.std.specs.List.Sorted.{IsPermutation}
use Rattle.std.proofs.lemmas.List.{append-nil, drop_all}
use Rattle.sfc_tables.proofs.Rankings.{pairs, place_of, rank_order_is}
use Rattle.sfc_tables.proofs.rank.rank_order.Goals as goal

pub returns : goal.returns
returns c =
    let ps : List (Option ℕ) = map (λ t. t.priority) c.args.transitions.now in
    let xs = c.sort_unstable.new.self.items in
    let made : c.loop-i.keyed.items ≡ pairs 0 ps =
    rw (drop_all c.loop-i.i c.args.transitions.now (omega arith), append-nil c.loop-i.keyed.items) at c.loop-i.invariant.rest in
    let moved : IsPermutation (pairs 0 ps) xs = subst (λ l. IsPermutation l xs) made c.sort_unstable.ensures.permutation in
    let v : c.deref-pair-items.result.now ≡ xs = c.deref-pair-items.ensures.value in
    let e : c.loop-pair.ranked.items ≡ map place_of c.deref-pair-items.result.now =
    rw (drop_all c.loop-pair.pair-index c.deref-pair-items.result.now (omega arith), append-nil c.loop-pair.ranked.items)
    at c.loop-pair.invariant.rest in
    rank_order_is ps xs c.loop-pair.ranked.items moved c.sort_unstable.ensures.sorted (e ∙ ap (λ l. map place_of l) v)
