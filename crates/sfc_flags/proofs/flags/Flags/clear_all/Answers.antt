use Rattle.std.proofs.Common.{◌≡◌, length, ◌∙◌, ap, arith}
use Rattle.std.specs.Vec.{with_items}
use Rattle.std.proofs.lemmas.List.{with_items_is}
use Rattle.sfc_flags.specs.Private.Bits.{flags_of}
use Rattle.sfc_flags.proofs.Views.{length_of, blank_table}
use Rattle.sfc_flags.proofs.Passed.{words_within}
use Rattle.sfc_flags.proofs.flags.Flags.clear_all.Goals as goal

pub returns-then-self-gt0-clause-flags : goal.returns-then-self-gt0-clause-flags
returns-then-self-gt0-clause-flags c =
    let n = c.self.inside.count in
    let v = c.self.inside.words in
    let e : (with_items v c.clear_one.new.words).items ≡ c.clear_one.new.words = with_items_is v c.clear_one.new.words (omega arith) in
    ap (flags_of n) e
    ∙ blank_table n (length c.args.self.now) c.clear_one.new.words (omega (arith, length_of n v.items, ap length c.self.view_is))
    record { sized = omega (arith, c.self.invariant.table.sized); blank = λ j le. c.clear_one.ensures.bits j } (λ j. c.clear_one.ensures.bits j)

pub returns-then-self-gt0-clause-ticks : goal.returns-then-self-gt0-clause-ticks
returns-then-self-gt0-clause-ticks c =
    let few = words_within c.self.inside.count c.self.inside.words.items c.self.invariant.table in
    let all = length_of c.self.inside.count c.self.inside.words.items in
    let same = ap length c.self.view_is in
    let words = ap length c.deref_mut.ensures.value in
    (omega (arith, c.clear_one.ensures.ticks.0), omega (arith, c.clear_one.ensures.ticks.1, few, all, same, words))

pub returns-else-self-gt0-clause-flags : goal.returns-else-self-gt0-clause-flags
returns-else-self-gt0-clause-flags c =
    let n = c.self.inside.count in
    let v = c.self.inside.words in
    let e : (with_items v c.clear.new.words).items ≡ c.clear.new.words = with_items_is v c.clear.new.words (omega arith) in
    ap (flags_of n) e
    ∙ blank_table n (length c.args.self.now) c.clear.new.words (omega (arith, length_of n v.items, ap length c.self.view_is))
    record { sized = omega (arith, c.self.invariant.table.sized); blank = λ j le. c.clear.ensures.bits j } (λ j. c.clear.ensures.bits j)

pub returns-else-self-gt0-clause-ticks : goal.returns-else-self-gt0-clause-ticks
returns-else-self-gt0-clause-ticks c =
    let few = words_within c.self.inside.count c.self.inside.words.items c.self.invariant.table in
    let all = length_of c.self.inside.count c.self.inside.words.items in
    let same = ap length c.self.view_is in
    let words = ap length c.deref_mut-else-self-gt0.ensures.value in
    (omega (arith, c.clear.ensures.ticks.0), omega (arith, c.clear.ensures.ticks.1, few, all, same, words))
