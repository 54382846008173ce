use Rattle.std.proofs.Common.{◌≡◌, ◌∙◌, ◌+◌, ◌/◌, ◌%◌, ◌<◌, ◌∷◌, ℕ, true, length, ap, arith, subst, sym}
use Rattle.sfc_flags.specs.Cursors.{StandsAt}
use Rattle.sfc_flags.specs.Flags.{flag, places_from}
use Rattle.sfc_flags.proofs.Cursors.{at_end, next_in_word, next_word}
use Rattle.sfc_flags.proofs.Views.{length_of}
use Rattle.sfc_flags.proofs.flags.Flags.next.Goals as goal

pub word-requires : goal.word-requires
word-requires c =
    omega (arith, c.if-base-count.false, length_of c.self.inside.count c.self.inside.words.items, ap length c.self.view_is)

pub words-smaller : goal.words-smaller
words-smaller c =
    omega (arith, c.if-base-count.false, length_of c.self.inside.count c.self.inside.words.items, ap length c.self.view_is)

pub returns-then-base-count-clause-none : goal.returns-then-base-count-clause-none
returns-then-base-count-clause-none c from stands none =
    at_end c.args.self.now from c.words.at.base c.words.at.rest (c.words.invariant from stands) (c.is_none.ensures.0 c.words-test.true)
    (omega (arith, c.if-base-count.true, length_of c.self.inside.count c.self.inside.words.items, ap length c.self.view_is))

pub words-preserved : goal.words-preserved
words-preserved c from stands =
    let flags = c.args.self.now in
    let next : c.saturating_add-base.result ≡ c.words.at.base + 64 = omega (arith, c.if-base-count.false) in
    subst (λ (base : ℕ). StandsAt flags from (record { base = base; rest = c.word.result })) (sym next)
    (next_word flags from c.words.at.base c.words.at.rest (c.words.invariant from stands) (c.is_none.ensures.0 c.words-test.true)
    c.word.result (λ place own. c.word.ensures place (own ∙ ap (λ (base : ℕ). base / 64) (sym next))))

pub returns-clause-some : goal.returns-clause-some
returns-clause-some c from stands =
    let flags = c.args.self.now in
    let base = c.words.at.base in
    let place = c.in_ok-place.place in
    let at = c.words.invariant from stands in
    let first = c.in_ok-place.ensures.first in
    let done = next_in_word flags from base c.words.at.rest at place c.in_ok-place.rest first.0 first.1 first.2 c.in_ok-place.ensures.rest in
    let exact : base + place ≡ (base + place) % 18446744073709551616 =
    omega (arith, done.0, length_of c.self.inside.count c.self.inside.words.items, ap length c.self.view_is) in
    subst (λ (i : ℕ). (i < length flags) × (flag flags i ≡ true) × (places_from flags from ≡ i ∷ places_from flags (i + 1))
    × StandsAt flags (i + 1) (record { base = base; rest = c.in_ok-place.rest })) exact done
