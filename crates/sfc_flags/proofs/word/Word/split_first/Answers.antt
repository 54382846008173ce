use Rattle.std.proofs.Common.{◌≡◌, ◌%◌, ◌==◌, cond, true, ◌∙◌, sym, ap, arith, eq-eqb}
use Rattle.std.specs.Int.{bit_at}
use lib.Count.{count_trailing_zeros}
use Rattle.sfc_flags.specs.Words.{has, word_of}
use Rattle.sfc_flags.proofs.Has.{lowest, minus_shows, test_none}
use Rattle.sfc_flags.proofs.word.Word.split_first.Goals as goal

pub returns-then-self-eq0-clause-none : goal.returns-then-self-eq0-clause-none
unfolding has
returns-then-self-eq0-clause-none c none = (test_none c.args.self.0 (omega arith)).0 (eq-eqb c.args.self.0 0 c.if-self-eq0.true)

pub returns-clause-first : goal.returns-clause-first
unfolding has
returns-clause-first c = lowest c.args.self.0 (omega arith) (omega arith)

pub returns-clause-rest : goal.returns-clause-rest
unfolding has
returns-clause-rest c place =
    let low = (lowest c.args.self.0 (omega arith) (omega arith)).0 in
    let same : word_of (place % 64) ≡ word_of (count_trailing_zeros 64 c.args.self.0) = omega arith in
    let twice : place % 64 % 64 ≡ place % 64 = omega arith in
    let is = c.plus-first.ensures (place % 64) same in
    let none = c.none.ensures (place % 64) in
    let low_same : (count_trailing_zeros 64 c.args.self.0) % 64 ≡ count_trailing_zeros 64 c.args.self.0 = omega arith in
    c.without.ensures place
    ∙ minus_shows (has c.args.self place) (has c.plus-first.result place) place _ low
    (ap (λ p. bit_at c.plus-first.result.0 p == 1) (sym twice) ∙ is ∙ ap (λ b. cond (place % 64 == count_trailing_zeros 64 c.args.self.0) true b) none)
