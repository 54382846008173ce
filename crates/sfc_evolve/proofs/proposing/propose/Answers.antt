use Rattle.std.proofs.Common.{◌≡◌, ◌∙◌, ◌+◌, suc, ℕ, List, ap, refl, length, get_or, arith, drop, false, Bool}
use Rattle.std.specs.Prelude.{sum_by}
use Rattle.std.specs.List.{range_with_len}
use Rattle.std.proofs.lemmas.List.{length-replicate}
use Rattle.std.proofs.lemmas.List.FromFn.{length-range_with_len, get_or-range_with_len}
use Rattle.sfc_flags.specs.Flags.{places_passed}
use Rattle.sfc_tables.specs.Departures.{first_steps, departures}
use Rattle.sfc_evolve.proofs.Proposed.{share, share_left, share_sum, firsts_long, departures_below}
use Rattle.sfc_evolve.proofs.proposing.propose.Goals as goal

pub steps-init : goal.steps-init
steps-init c =
    let tables = c.args.tables.now in
    let firsts = first_steps tables.sides tables.ranked in
    let all = share_sum firsts (length c.args.active.now) in
    let long = firsts_long tables c.requires.tables in
    record { rest = refl; len = refl; within = omega arith; rises = omega arith; ticks = omega (arith, all, long) }

pub set_places-requires : goal.set_places-requires
set_places-requires c =
    let blank = ap (λ (l : List Bool). length l) c.clear_all.ensures.flags ∙ length-replicate (length c.args.candidates.now) false in
    rw c.departures.ensures
    (departures_below c.args.tables.now c.requires.tables (length c.steps.candidates) c.in-Some.s
    (c.steps.invariant.len ∙ blank ∙ c.requires.candidates_len))

pub steps-preserved : goal.steps-preserved
steps-preserved c =
    let tables = c.args.tables.now in
    let firsts = first_steps tables.sides tables.ranked in
    let n = length c.args.active.now in
    let s = c.in-Some.s in
    let e : suc s ≡ s + 1 = omega arith in
    let long = length-range_with_len 0 n in
    let left = share_left (share firsts) (range_with_len 0 n) c.steps.at s (omega (arith, c.in-Some.ensures.some))
    (omega (arith, c.in-Some.ensures.some, long)) in
    let zero_on : 0 + s ≡ s = omega arith in
    let at_s : get_or (range_with_len 0 n) s 0 ≡ s = get_or-range_with_len 0 n s 0 (omega (arith, c.in-Some.ensures.some)) ∙ zero_on in
    let here : share firsts (get_or (range_with_len 0 n) s 0) ≡ length (departures tables s) = ap (share firsts) at_s in
    record {
      rest = rw (c.set_places.ensures.flags, c.departures.ensures) (rw c.in-Some.ensures.some.2 at c.steps.invariant.rest);
      len = c.set_places.ensures.len ∙ c.steps.invariant.len;
      within = omega (arith, c.in-Some.ensures.some);
      rises = omega (arith, c.in-Some.ensures.ticks, c.set_places.ensures.ticks, c.steps.invariant.rises);
      ticks =
          omega (
            arith,
            left,
            here,
            ap (λ k. sum_by (share firsts) (drop k (range_with_len 0 n))) e,
            ap (λ (l : List ℕ). length l) c.departures.ensures,
            c.in-Some.ensures.some,
            c.in-Some.ensures.ticks,
            c.set_places.ensures.ticks,
            c.steps.invariant.ticks,
          );
    }

pub returns-clause-ticks : goal.returns-clause-ticks
returns-clause-ticks c =
    let at = c.steps.at in
    let passed = ap (places_passed (length c.args.active.now) at) c.in_default.is in (
      omega (arith, c.next_set.ensures.ticks, c.clear_all.ensures.ticks, c.steps.invariant.rises),
      omega (
        arith,
        passed,
        c.next_set.ensures.ticks,
        c.clear_all.ensures.ticks,
        c.steps.invariant.ticks,
        c.requires.active_len,
        c.requires.candidates_len,
      ),
    )
