use Rattle.std.proofs.Common.{◌≡◌, ◌↔◌, length, refl, subst, arith}
use Rattle.sfc_flags.proofs.Same.{AreSame, one_more, all_compared, one_compared}
use Rattle.sfc_flags.proofs.words.are_same.Goals as goal

pub returns-then-words-eq1 : goal.returns-then-words-eq1
returns-then-words-eq1 c =
    one_compared c.args.words.now c.args.other.now c.requires (λ i. omega (arith, c.type_inv.words i)) (λ i. omega (arith, c.type_inv.other i))
    c.if-words-eq1.true

pub loop-k-init : goal.loop-k-init
loop-k-init c = record { apart = (λ none j lt. absurd (omega arith), λ same. refl) }

pub loop-k-preserved : goal.loop-k-preserved
loop-k-preserved c = record { apart = one_more c.args.words.now c.args.other.now c.loop-k.apart c.loop-k.k c.loop-k.invariant.apart }

pub returns : goal.returns
returns c =
    let all : c.loop-k.k ≡ length c.args.words.now = omega (arith, c.loop-k-test.false, c.loop-k.auto.k-end) in
    all_compared c.args.words.now c.args.other.now c.requires (λ i. omega (arith, c.type_inv.words i)) (λ i. omega (arith, c.type_inv.other i))
    c.loop-k.apart (subst (λ k. (c.loop-k.apart ≡ 0) ↔ AreSame c.args.words.now c.args.other.now k) all c.loop-k.invariant.apart)
