use Rattle.std.proofs.Common.{◌≡◌, ◌||◌, ℕ, length, arith, refl, sym, ◌∙◌}
use Rattle.sfc_flags.specs.Flags.{flag}
use Rattle.sfc_flags.specs.Words.{has, word_of}
use Rattle.sfc_flags.proofs.Wordwise.{begun}
use Rattle.sfc_evolve.specs.Private.Keeping.{number}
use Rattle.sfc_evolve.proofs.Copied.{joined, joined_more, joined_all, one_below}
use Rattle.sfc_evolve.proofs.copying.copy_moved.Goals as goal

pub loop-number-init : goal.loop-number-init
loop-number-init c =
    let active = c.args.active.now in
    let on = c.args.on.now in
    let since = c.args.since.now in
    let held_times = c.args.held_times.now in
    record {
      since_length = refl;
      held_times_length = refl;
      since = begun (joined active on c.args.from.since.now since) (number since);
      held_times = begun (joined active on c.args.from.held_times.now held_times) (number held_times);
    }

pub copy_word-requires-clause-places : goal.copy_word-requires-clause-places
copy_word-requires-clause-places c s e on =
    let is : has c.or-moved.result s ≡ (flag c.args.active.now s || flag c.args.on.now s) =
    c.or-moved.ensures s ∙ (λ i. c.word.ensures s e i || c.word-then-words-eq1.ensures s e i) in
    one_below c.args.active.now c.args.on.now (length c.args.since.now) s c.requires.active_len c.requires.on_len (sym is ∙ on)

pub loop-number-preserved : goal.loop-number-preserved
loop-number-preserved c =
    let active = c.args.active.now in
    let on = c.args.on.now in
    let was = c.loop-number.invariant in
    let k = c.loop-number.number in
    let is : (s : ℕ) → word_of s ≡ k → has c.or-moved-in-loop-number.result s ≡ (flag active s || flag on s) =
    λ s e. c.or-moved-in-loop-number.ensures s ∙ (λ i. c.word-in-loop-number.ensures s e i || c.word-in-loop-number-2.ensures s e i) in
    record {
      since_length = c.copy_word-in-loop-number.ensures.since_len ∙ was.since_length;
      held_times_length = c.copy_word-in-loop-number.ensures.held_times_len ∙ was.held_times_length;
      since = joined_more active on c.args.from.since.now c.args.since.now c.loop-number.since c.copy_word-in-loop-number.new.since k c.or-moved-in-loop-number.result is
          was.since c.copy_word-in-loop-number.ensures.since;
      held_times = joined_more active on c.args.from.held_times.now c.args.held_times.now c.loop-number.held_times c.copy_word-in-loop-number.new.held_times k
          c.or-moved-in-loop-number.result is was.held_times c.copy_word-in-loop-number.ensures.held_times;
    }

pub returns-clause-since : goal.returns-clause-since
returns-clause-since c s lt =
    joined_all c.args.active.now c.args.on.now c.args.from.since.now c.args.since.now c.loop-number.since (length c.args.active.now)
    c.loop-number.number (omega (arith, c.words-number-end.ensures)) c.loop-number.invariant.since s (omega (arith, lt, c.requires.active_len))

pub returns-clause-held_times : goal.returns-clause-held_times
returns-clause-held_times c s lt =
    joined_all c.args.active.now c.args.on.now c.args.from.held_times.now c.args.held_times.now c.loop-number.held_times
    (length c.args.active.now) c.loop-number.number (omega (arith, c.words-number-end.ensures)) c.loop-number.invariant.held_times s
    (omega (arith, lt, c.requires.active_len))

pub returns-then-words-eq1-clause-since : goal.returns-then-words-eq1-clause-since
returns-then-words-eq1-clause-since c s lt =
    let active = c.args.active.now in
    let on = c.args.on.now in
    let from = c.args.from.since.now in
    let old = c.args.since.now in
    let is : (s : ℕ) → word_of s ≡ 0 → has c.or-moved.result s ≡ (flag active s || flag on s) =
    λ s e. c.or-moved.ensures s ∙ (λ i. c.word.ensures s e i || c.word-then-words-eq1.ensures s e i) in
    joined_all active on from old c.copy_word.new.since (length active) 1 (omega (arith, c.words.ensures, c.if-words-eq1.true))
    (joined_more active on from old old c.copy_word.new.since 0 c.or-moved.result is (begun (joined active on from old) (number old))
    c.copy_word.ensures.since)
    s (omega (arith, lt, c.requires.active_len))

pub returns-then-words-eq1-clause-held_times : goal.returns-then-words-eq1-clause-held_times
returns-then-words-eq1-clause-held_times c s lt =
    let active = c.args.active.now in
    let on = c.args.on.now in
    let from = c.args.from.held_times.now in
    let old = c.args.held_times.now in
    let is : (s : ℕ) → word_of s ≡ 0 → has c.or-moved.result s ≡ (flag active s || flag on s) =
    λ s e. c.or-moved.ensures s ∙ (λ i. c.word.ensures s e i || c.word-then-words-eq1.ensures s e i) in
    joined_all active on from old c.copy_word.new.held_times (length active) 1 (omega (arith, c.words.ensures, c.if-words-eq1.true))
    (joined_more active on from old old c.copy_word.new.held_times 0 c.or-moved.result is (begun (joined active on from old) (number old))
    c.copy_word.ensures.held_times)
    s (omega (arith, lt, c.requires.active_len))
