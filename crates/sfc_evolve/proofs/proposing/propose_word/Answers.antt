use Rattle.std.proofs.Common.{◌≡◌, ◌∙◌, ◌+◌, ◌<◌, ◌%◌, ◌==◌, ◌&&◌, not, suc, ℕ, List, ap, sym, refl, length, get_or, arith, drop}
use Rattle.std.specs.Prelude.{sum_by}
use Rattle.std.specs.List.{range_with_len}
use Rattle.std.proofs.lemmas.List.FromFn.{length-range_with_len, get_or-range_with_len}
use Rattle.sfc_flags.specs.Words.{has}
use Rattle.sfc_tables.specs.Departures.{first_steps, departures}
use Rattle.sfc_evolve.specs.Private.Proposing.{proposed_by}
use Rattle.sfc_flags.proofs.Fewer.{fewer}
use Rattle.sfc_evolve.proofs.Proposed.{share, share_left, share_sum, firsts_long, departures_below}
use Rattle.sfc_evolve.proofs.Walked.{all_left, reached, next_below, next_is, left_next, none_left}
use Rattle.sfc_evolve.proofs.proposing.propose_word.Goals as goal

pub steps-init : goal.steps-init
steps-init c =
    let tables = c.args.tables.now in
    let firsts = first_steps tables.sides tables.ranked in
    let all = share_sum firsts (length c.args.active.now) in
    let long = firsts_long tables c.requires.tables in
    record {
      at = 0;
      left = all_left c.args.active.now c.word-left.result c.word-left.ensures;
      rest = refl;
      len = refl;
      rises = omega arith;
      ticks = omega (arith, all, long);
    }

pub set_places-requires : goal.set_places-requires
set_places-requires c =
    rw c.departures.ensures
    (departures_below c.args.tables.now c.requires.tables (length c.steps.candidates) c.in-Some.s
    (c.steps.invariant.len ∙ c.requires.candidates_len))

pub steps-smaller : goal.steps-smaller
steps-smaller c = fewer (has c.steps.left) (has c.in-Some.rest) 64 c.in-Some.s c.in-Some.ensures.first.0 c.in-Some.ensures.first.1
    (λ q lt. c.in-Some.ensures.rest q ∙ (let e : q % 64 ≡ q = omega arith in ap (λ k. has c.steps.left q && not (k == c.in-Some.s)) e))

pub steps-preserved : goal.steps-preserved
steps-preserved c =
    let tables = c.args.tables.now in
    let active = c.args.active.now in
    let firsts = first_steps tables.sides tables.ranked in
    let n = length active in
    let s = c.in-Some.s in
    let was = c.steps.invariant in
    let first = c.in-Some.ensures.first in
    let below : s < n = next_below active c.steps.left was.at was.left s first.0 first.1 in
    let next = next_is active c.steps.left was.at was.left s first.0 first.1 first.2 in
    let e : suc s ≡ s + 1 = omega arith in
    let long = length-range_with_len 0 n in
    let left = share_left (share firsts) (range_with_len 0 n) was.at s (reached active c.steps.left was.at was.left s first.0 first.1)
    (omega (arith, below, long)) in
    let zero_on : 0 + s ≡ s = omega arith in
    let at_s : get_or (range_with_len 0 n) s 0 ≡ s = get_or-range_with_len 0 n s 0 below ∙ zero_on in
    let here : share firsts (get_or (range_with_len 0 n) s 0) ≡ length (departures tables s) = ap (share firsts) at_s in
    record {
      at = s + 1;
      left = left_next active c.steps.left was.at was.left s first.0 first.1 c.in-Some.rest first.2 c.in-Some.ensures.rest;
      rest = rw (c.set_places.ensures.flags, c.departures.ensures) (rw next at was.rest);
      len = c.set_places.ensures.len ∙ was.len;
      rises = omega (arith, c.set_places.ensures.ticks, was.rises);
      ticks =
          omega (
            arith,
            left,
            here,
            ap (λ k. sum_by (share firsts) (drop k (range_with_len 0 n))) e,
            ap (λ (l : List ℕ). length l) c.departures.ensures,
            c.set_places.ensures.ticks,
            was.ticks,
          );
    }

pub returns-clause-flags : goal.returns-clause-flags
returns-clause-flags c =
    let was = c.steps.invariant in
    let none = none_left c.args.active.now c.steps.left was.at was.left (omega (arith, c.requires.one)) (c.in_default.ensures.none refl) in
    ap (λ l. proposed_by c.args.tables.now l c.steps.candidates) (sym none) ∙ was.rest
