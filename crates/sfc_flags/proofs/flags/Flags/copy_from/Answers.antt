use Rattle.std.proofs.Common.{◌≡◌, length, ◌∙◌, ap, arith}
use Rattle.std.specs.Vec.{with_items}
use Rattle.std.proofs.lemmas.List.{with_items_is}
use Rattle.sfc_flags.specs.Private.Bits.{flags_of}
use Rattle.sfc_flags.proofs.Views.{held, length_of}
use Rattle.sfc_flags.proofs.Passed.{words_within}
use Rattle.sfc_flags.proofs.flags.Flags.copy_from.Goals as goal

pub copy-requires : goal.copy-requires
copy-requires c =
    omega (arith, length_of c.self.inside.count c.self.inside.words.items, ap length c.self.view_is, length_of c.other.inside.count c.other.inside.words.items, ap length c.other.view_is)

pub invariant_of-self : goal.invariant_of-self
invariant_of-self c =
    let v = c.self.inside.words in
    let same : c.self.inside.count ≡ c.other.inside.count = omega (arith, length_of c.self.inside.count v.items, ap length c.self.view_is, length_of c.other.inside.count c.other.inside.words.items, ap length c.other.view_is) in
    let e : (with_items v c.copy.new.words).items ≡ c.copy.new.words = with_items_is v c.copy.new.words (omega arith) in
    held c.self.invariant (rw (same, e, c.copy.ensures.words, c.deref.ensures.value) c.other.invariant.table)

pub returns-clause-flags : goal.returns-clause-flags
returns-clause-flags c =
    let v = c.self.inside.words in
    let same : c.self.inside.count ≡ c.other.inside.count = omega (arith, length_of c.self.inside.count v.items, ap length c.self.view_is, length_of c.other.inside.count c.other.inside.words.items, ap length c.other.view_is) in
    let e : (with_items v c.copy.new.words).items ≡ c.other.inside.words.items = with_items_is v c.copy.new.words (omega arith) ∙ c.copy.ensures.words ∙ c.deref.ensures.value in
    ap (λ n. flags_of n (with_items v c.copy.new.words).items) same ∙ ap (flags_of c.other.inside.count) e ∙ c.other.view_is

pub returns-clause-ticks : goal.returns-clause-ticks
returns-clause-ticks c =
    let few = words_within c.self.inside.count c.self.inside.words.items c.self.invariant.table in
    let all = length_of c.self.inside.count c.self.inside.words.items in
    let same = ap length c.self.view_is in
    let words = ap length c.deref_mut.ensures.value in
    (omega (arith, c.copy.ensures.ticks.0), omega (arith, c.copy.ensures.ticks.1, few, all, same, words))
