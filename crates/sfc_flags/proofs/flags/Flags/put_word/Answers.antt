use Rattle.std.proofs.Common.{◌≡◌, length, ◌∙◌, ◌%◌, ◌/◌, ◌==◌, cond, ap, sym, arith, subst}
use Rattle.std.specs.Prelude.{slice_set}
use Rattle.std.specs.Int.{bit_at}
use Rattle.std.specs.Vec.{with_items}
use Rattle.std.proofs.lemmas.List.{with_items_is, length-set}
use Rattle.sfc_flags.specs.Flags.{flag}
use Rattle.sfc_flags.specs.Words.{has}
use Rattle.sfc_flags.specs.Private.Bits.{flags_of, IsTable}
use Rattle.sfc_flags.proofs.Views.{held, length_of}
use Rattle.sfc_flags.proofs.Has.{word_put, put_shows}
use Rattle.sfc_flags.proofs.flags.Flags.put_word.Goals as goal

pub put_word-requires : goal.put_word-requires
put_word-requires c =
    omega (arith, length_of c.self.inside.count c.self.inside.words.items, ap length c.self.view_is, ap length c.deref_mut.ensures.value, c.self.invariant.table.sized)

pub invariant_of-self : goal.invariant_of-self
unfolding has
invariant_of-self c =
    let n = c.self.inside.count in let v = c.self.inside.words in let k = c.args.number in let w = c.args.word.0 in
    let all = length_of n v.items in
    let made : c.put_word.new.words ≡ slice_set v.items k w = c.put_word.ensures ∙ ap (λ ws. slice_set ws k w) c.deref_mut.ensures.value in
    let e : (with_items v c.put_word.new.words).items ≡ slice_set v.items k w =
    with_items_is v c.put_word.new.words (omega (arith, ap length made, length-set v.items k w)) ∙ made in
    held c.self.invariant (subst (IsTable n) (sym e) (word_put n v.items k w c.self.invariant.table (omega (arith, all, ap length c.self.view_is, c.self.invariant.table.sized))
    (λ i at le. c.requires.past i at (omega (arith, all, ap length c.self.view_is)))))

pub returns-clause-len : goal.returns-clause-len
returns-clause-len c =
    omega (arith, length_of c.self.inside.count (with_items c.self.inside.words c.put_word.new.words).items, length_of c.self.inside.count c.self.inside.words.items, ap length c.self.view_is)

pub returns-clause-flags : goal.returns-clause-flags
unfolding has
returns-clause-flags c place =
    let n = c.self.inside.count in let v = c.self.inside.words in let k = c.args.number in let w = c.args.word.0 in
    let all = length_of n v.items in
    let made : c.put_word.new.words ≡ slice_set v.items k w = c.put_word.ensures ∙ ap (λ ws. slice_set ws k w) c.deref_mut.ensures.value in
    let e : (with_items v c.put_word.new.words).items ≡ slice_set v.items k w =
    with_items_is v c.put_word.new.words (omega (arith, ap length made, length-set v.items k w)) ∙ made in
    ap (λ ws. flag (flags_of n ws) place) e
    ∙ put_shows n v.items k w c.self.invariant.table (omega (arith, all, ap length c.self.view_is, c.self.invariant.table.sized))
    (λ i at le. c.requires.past i at (omega (arith, all, ap length c.self.view_is))) place
    ∙ ap (λ f. cond (place / 64 == k) (bit_at w (place % 64) == 1) (flag f place)) c.self.view_is
