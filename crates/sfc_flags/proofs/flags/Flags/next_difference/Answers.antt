use Rattle.std.proofs.Common.{length, ap, arith}
use Rattle.sfc_flags.proofs.Views.{length_of}
use Rattle.sfc_flags.proofs.Apart.{alike, same_flag, past_both, some_difference, none_before, differences_passed}
use Rattle.sfc_flags.proofs.flags.Flags.next_difference.Goals as goal

pub next_difference-requires-clause-few : goal.next_difference-requires-clause-few
next_difference-requires-clause-few c = omega (arith, c.self.invariant.table.sized)

pub next_difference-requires-clause-within : goal.next_difference-requires-clause-within
next_difference-requires-clause-within c = omega (arith, c.self.invariant.table.sized, ap length c.deref-then-from-count.ensures.value)

pub next_difference-requires-clause-len : goal.next_difference-requires-clause-len
next_difference-requires-clause-len c =
    alike _ _ _ _ c.deref-then-from-count.result.now c.deref-then-from-count-2.result.now _ _ c.self.invariant.table c.other.invariant.table
    c.deref-then-from-count.ensures.value c.deref-then-from-count-2.ensures.value c.self.view_is c.other.view_is c.requires

pub returns-then-from-count-clause-some : goal.returns-then-from-count-clause-some
returns-then-from-count-clause-some c =
    some_difference _ _ _ _ c.deref-then-from-count.result.now c.deref-then-from-count-2.result.now _ _ c.self.invariant.table c.other.invariant.table
    c.deref-then-from-count.ensures.value c.deref-then-from-count-2.ensures.value c.self.view_is c.other.view_is c.requires
    c.args.from c.next_difference.result c.next_difference.ensures.some

pub returns-then-from-count-clause-before : goal.returns-then-from-count-clause-before
returns-then-from-count-clause-before c =
    none_before _ _ _ _ c.deref-then-from-count.result.now c.deref-then-from-count-2.result.now _ _ c.self.invariant.table c.other.invariant.table
    c.deref-then-from-count.ensures.value c.deref-then-from-count-2.ensures.value c.self.view_is c.other.view_is c.requires
    c.args.from c.next_difference.result c.next_difference.ensures.some

pub returns-then-from-count-clause-none : goal.returns-then-from-count-clause-none
returns-then-from-count-clause-none c none j le =
    same_flag _ _ _ _ c.deref-then-from-count.result.now c.deref-then-from-count-2.result.now _ _ c.self.invariant.table c.other.invariant.table
    c.deref-then-from-count.ensures.value c.deref-then-from-count-2.ensures.value c.self.view_is c.other.view_is c.requires
    j (c.next_difference.ensures.none none j le)

pub returns-else-from-count-clause-none : goal.returns-else-from-count-clause-none
returns-else-from-count-clause-none c none j le =
    past_both c.args.self.now c.args.other.now j c.requires (omega (arith, length_of c.self.inside.count c.self.inside.words.items, ap length c.self.view_is))

pub returns-then-from-count-clause-len : goal.returns-then-from-count-clause-len
returns-then-from-count-clause-len c = omega (arith, length_of c.self.inside.count c.self.inside.words.items, ap length c.self.view_is)

pub returns-else-from-count-clause-len : goal.returns-else-from-count-clause-len
returns-else-from-count-clause-len c = omega (arith, length_of c.self.inside.count c.self.inside.words.items, ap length c.self.view_is)

pub returns-then-from-count-clause-ticks : goal.returns-then-from-count-clause-ticks
returns-then-from-count-clause-ticks c =
    let few = differences_passed _ _ _ _ c.deref-then-from-count.result.now c.deref-then-from-count-2.result.now _ _ c.self.invariant.table c.other.invariant.table
    c.deref-then-from-count.ensures.value c.deref-then-from-count-2.ensures.value c.self.view_is c.other.view_is c.requires
    c.args.from c.next_difference.result (omega arith) c.next_difference.ensures.some in
    (omega (arith, c.next_difference.ensures.ticks.0), omega (arith, c.next_difference.ensures.ticks.1, few))

pub next_difference_in_one-requires-clause-len : goal.next_difference_in_one-requires-clause-len
next_difference_in_one-requires-clause-len c =
    alike _ _ _ _ c.deref.result.now c.deref-then-from-self.result.now _ _ c.self.invariant.table c.other.invariant.table
    c.deref.ensures.value c.deref-then-from-self.ensures.value c.self.view_is c.other.view_is c.requires

pub returns-then-from-self-clause-some : goal.returns-then-from-self-clause-some
returns-then-from-self-clause-some c =
    some_difference _ _ _ _ c.deref.result.now c.deref-then-from-self.result.now _ _ c.self.invariant.table c.other.invariant.table
    c.deref.ensures.value c.deref-then-from-self.ensures.value c.self.view_is c.other.view_is c.requires
    c.args.from c.next_difference_in_one.result c.next_difference_in_one.ensures.some

pub returns-then-from-self-clause-before : goal.returns-then-from-self-clause-before
returns-then-from-self-clause-before c =
    none_before _ _ _ _ c.deref.result.now c.deref-then-from-self.result.now _ _ c.self.invariant.table c.other.invariant.table
    c.deref.ensures.value c.deref-then-from-self.ensures.value c.self.view_is c.other.view_is c.requires
    c.args.from c.next_difference_in_one.result c.next_difference_in_one.ensures.some

pub returns-then-from-self-clause-none : goal.returns-then-from-self-clause-none
returns-then-from-self-clause-none c none j le =
    same_flag _ _ _ _ c.deref.result.now c.deref-then-from-self.result.now _ _ c.self.invariant.table c.other.invariant.table
    c.deref.ensures.value c.deref-then-from-self.ensures.value c.self.view_is c.other.view_is c.requires
    j (c.next_difference_in_one.ensures.none none j le)

pub returns-then-from-self-clause-len : goal.returns-then-from-self-clause-len
returns-then-from-self-clause-len c = omega (arith, length_of c.self.inside.count c.self.inside.words.items, ap length c.self.view_is)

pub returns-then-from-self-clause-ticks : goal.returns-then-from-self-clause-ticks
returns-then-from-self-clause-ticks c =
    let few = differences_passed _ _ _ _ c.deref.result.now c.deref-then-from-self.result.now _ _ c.self.invariant.table c.other.invariant.table
    c.deref.ensures.value c.deref-then-from-self.ensures.value c.self.view_is c.other.view_is c.requires
    c.args.from c.next_difference_in_one.result (omega arith) c.next_difference_in_one.ensures.some in
    (omega (arith, c.next_difference_in_one.ensures.ticks.0), omega (arith, c.next_difference_in_one.ensures.ticks.1, few))
