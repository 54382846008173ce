use Rattle.std.proofs.Common.{length, ◌∙◌, ap, arith}
use Rattle.sfc_flags.proofs.Views.{length_of, shown}
use Rattle.sfc_flags.proofs.Nexts.{some_place, no_place, none_left}
use Rattle.sfc_flags.proofs.Passed.{passed}
use Rattle.sfc_flags.proofs.flags.Flags.next_set.Goals as goal

pub next-requires-clause-few : goal.next-requires-clause-few
next-requires-clause-few c = omega (arith, c.self.invariant.table.sized)

pub next-requires-clause-within : goal.next-requires-clause-within
next-requires-clause-within c = omega (arith, c.self.invariant.table.sized, ap length c.deref-then-from-count.ensures.value)

pub returns-then-from-count-clause-some : goal.returns-then-from-count-clause-some
returns-then-from-count-clause-some c = some_place _ _ c.deref-then-from-count.result.now _ c.self.invariant.table c.deref-then-from-count.ensures.value c.self.view_is c.args.from c.next.result c.next.ensures.some

pub returns-then-from-count-clause-none : goal.returns-then-from-count-clause-none
returns-then-from-count-clause-none c none =
    no_place _ c.args.from (λ j le. shown _ _ c.deref-then-from-count.result.now _ c.self.invariant.table c.deref-then-from-count.ensures.value c.self.view_is j ∙ c.next.ensures.none none j le)

pub returns-else-from-count-clause-none : goal.returns-else-from-count-clause-none
returns-else-from-count-clause-none c none = none_left c.args.self.now c.args.from (omega (arith, length_of c.self.inside.count c.self.inside.words.items, ap length c.self.view_is))

pub returns-then-from-count-clause-len : goal.returns-then-from-count-clause-len
returns-then-from-count-clause-len c = omega (arith, length_of c.self.inside.count c.self.inside.words.items, ap length c.self.view_is)

pub returns-else-from-count-clause-len : goal.returns-else-from-count-clause-len
returns-else-from-count-clause-len c = omega (arith, length_of c.self.inside.count c.self.inside.words.items, ap length c.self.view_is)

pub returns-then-from-count-clause-ticks : goal.returns-then-from-count-clause-ticks
returns-then-from-count-clause-ticks c =
    let few = passed c.self.inside.count (length c.args.self.now) c.args.from c.self.inside.words.items c.deref-then-from-count.result.now c.next.result c.self.invariant.table c.deref-then-from-count.ensures.value
    (omega (arith, length_of c.self.inside.count c.self.inside.words.items, ap length c.self.view_is)) (omega arith) c.next.ensures.some in
    (omega (arith, c.next.ensures.ticks.0), omega (arith, c.next.ensures.ticks.1, few))

pub returns-then-from-self-clause-some : goal.returns-then-from-self-clause-some
returns-then-from-self-clause-some c =
    some_place _ _ c.deref.result.now _ c.self.invariant.table c.deref.ensures.value c.self.view_is c.args.from c.next_in_one.result c.next_in_one.ensures.some

pub returns-then-from-self-clause-none : goal.returns-then-from-self-clause-none
returns-then-from-self-clause-none c none =
    no_place _ c.args.from (λ j le. shown _ _ c.deref.result.now _ c.self.invariant.table c.deref.ensures.value c.self.view_is j ∙ c.next_in_one.ensures.none none j le)

pub returns-then-from-self-clause-len : goal.returns-then-from-self-clause-len
returns-then-from-self-clause-len c = omega (arith, length_of c.self.inside.count c.self.inside.words.items, ap length c.self.view_is)

pub returns-then-from-self-clause-ticks : goal.returns-then-from-self-clause-ticks
returns-then-from-self-clause-ticks c =
    let few = passed c.self.inside.count (length c.args.self.now) c.args.from c.self.inside.words.items c.deref.result.now c.next_in_one.result c.self.invariant.table c.deref.ensures.value
    (omega (arith, length_of c.self.inside.count c.self.inside.words.items, ap length c.self.view_is)) (omega arith) c.next_in_one.ensures.some in
    (omega (arith, c.next_in_one.ensures.ticks.0), omega (arith, c.next_in_one.ensures.ticks.1, few))
