use Rattle.std.proofs.Common.{rules, ◌≡◌, ◌+◌, ◌*◌, ◌%◌, ◌==◌, ◌&&◌, ℕ, not, length, arith, ap, refl, ◌∙◌, SFits, w64}
use Rattle.std.proofs.lemmas.Int.{to_z-of_z}
use Rattle.std.proofs.lemmas.List.{length-set}
use Rattle.sfc_flags.specs.Words.{has}
use Rattle.sfc_evolve.specs.Private.Keeping.{number}
use Rattle.sfc_flags.proofs.Fewer.{fewer}
use Rattle.sfc_evolve.proofs.Copied.{reached, keeps, take_one}
use Rattle.sfc_evolve.proofs.copying.copy_word.Goals as goal

pub overflow_mul-s : goal.overflow_mul-s
overflow_mul-s c =
    let below = reached c.args.word c.in-Some.place (length c.args.since.now) c.moved.left c.args.moved c.in-Some.ensures.first.0
    c.in-Some.ensures.first.1 c.moved.invariant.flags c.requires.places in
    search rules

pub overflow_add-s : goal.overflow_add-s
overflow_add-s c =
    let below = reached c.args.word c.in-Some.place (length c.args.since.now) c.moved.left c.args.moved c.in-Some.ensures.first.0
    c.in-Some.ensures.first.1 c.moved.invariant.flags c.requires.places in
    search rules

pub offset_bounds-from_since-s : goal.offset_bounds-from_since-s
offset_bounds-from_since-s c =
    let below = reached c.args.word c.in-Some.place (length c.args.since.now) c.moved.left c.args.moved c.in-Some.ensures.first.0
    c.in-Some.ensures.first.1 c.moved.invariant.flags c.requires.places in
    search rules

pub offset_bounds-since-s : goal.offset_bounds-since-s
offset_bounds-since-s c =
    let below = reached c.args.word c.in-Some.place (length c.args.since.now) c.moved.left c.args.moved c.in-Some.ensures.first.0
    c.in-Some.ensures.first.1 c.moved.invariant.flags c.requires.places in
    search rules

pub offset_bounds-from_held_times-s : goal.offset_bounds-from_held_times-s
offset_bounds-from_held_times-s c =
    let below = reached c.args.word c.in-Some.place (length c.args.since.now) c.moved.left c.args.moved c.in-Some.ensures.first.0
    c.in-Some.ensures.first.1 c.moved.invariant.flags c.requires.places in
    search rules

pub offset_bounds-held_times-s : goal.offset_bounds-held_times-s
offset_bounds-held_times-s c =
    let below = reached c.args.word c.in-Some.place (length c.args.since.now) c.moved.left c.args.moved c.in-Some.ensures.first.0
    c.in-Some.ensures.first.1 c.moved.invariant.flags c.requires.places in
    search rules

pub bounds-from_since-s : goal.bounds-from_since-s
bounds-from_since-s c =
    let below = reached c.args.word c.in-Some.place (length c.args.since.now) c.moved.left c.args.moved c.in-Some.ensures.first.0
    c.in-Some.ensures.first.1 c.moved.invariant.flags c.requires.places in
    omega (arith, below, c.requires.since_len)

pub bounds-since-s : goal.bounds-since-s
bounds-since-s c =
    let below = reached c.args.word c.in-Some.place (length c.args.since.now) c.moved.left c.args.moved c.in-Some.ensures.first.0
    c.in-Some.ensures.first.1 c.moved.invariant.flags c.requires.places in
    omega (arith, below, c.moved.invariant.since_length)

pub bounds-from_held_times-s : goal.bounds-from_held_times-s
bounds-from_held_times-s c =
    let below = reached c.args.word c.in-Some.place (length c.args.since.now) c.moved.left c.args.moved c.in-Some.ensures.first.0
    c.in-Some.ensures.first.1 c.moved.invariant.flags c.requires.places in
    omega (arith, below, c.requires.from_held_times_len)

pub bounds-held_times-s : goal.bounds-held_times-s
bounds-held_times-s c =
    let below = reached c.args.word c.in-Some.place (length c.args.since.now) c.moved.left c.args.moved c.in-Some.ensures.first.0
    c.in-Some.ensures.first.1 c.moved.invariant.flags c.requires.places in
    omega (arith, below, c.moved.invariant.held_times_length, c.requires.held_times_len)

pub moved-smaller : goal.moved-smaller
moved-smaller c = fewer (has c.moved.left) (has c.in-Some.rest) 64 c.in-Some.place c.in-Some.ensures.first.0 c.in-Some.ensures.first.1
    (λ q lt. c.in-Some.ensures.rest q ∙ (let e : q % 64 ≡ q = omega arith in ap (λ k. has c.moved.left q && not (k == c.in-Some.place)) e))

pub moved-preserved : goal.moved-preserved
moved-preserved c =
    let was = c.moved.invariant in
    let p = c.in-Some.place in
    let s : ℕ = c.args.word * 64 + p in
    let left = c.moved.left in
    let rest = c.in-Some.rest in
    let first = c.in-Some.ensures.first in
    let below = reached c.args.word c.in-Some.place (length c.args.since.now) c.moved.left c.args.moved c.in-Some.ensures.first.0
    c.in-Some.ensures.first.1 c.moved.invariant.flags c.requires.places in
    let since_fits : SFits w64 (number c.args.from.since.now s) = search rules in
    let time_fits : SFits w64 (number c.args.from.held_times.now s) = search rules in
    record {
      since_length = length-set _ _ _ ∙ was.since_length;
      held_times_length = length-set _ _ _ ∙ was.held_times_length;
      flags = λ q on. was.flags q (keeps left rest p c.in-Some.ensures.rest q on);
      since = λ q. take_one c.args.word p s left rest c.args.from.since.now c.moved.since _ first.0 refl (omega (arith, below, was.since_length))
          first.1 c.in-Some.ensures.rest (to_z-of_z w64 (number c.args.from.since.now s) since_fits) q ∙ was.since q;
      held_times = λ q. take_one c.args.word p s left rest c.args.from.held_times.now c.moved.held_times _ first.0 refl
          (omega (arith, below, was.held_times_length, c.requires.held_times_len))
          first.1 c.in-Some.ensures.rest (to_z-of_z w64 (number c.args.from.held_times.now s) time_fits) q ∙ was.held_times q;
    }
