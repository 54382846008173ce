use Rattle.std.proofs.Common.{arith, ap, sym, length, List, ℕ, ◌+◌, ◌∙◌}
use Rattle.std.proofs.lemmas.List.{length-set}
use Rattle.sfc_flags.specs.Flags.{places_from, places_passed}
use Rattle.sfc_evolve.specs.Private.Keeping.{set_at}
use Rattle.sfc_evolve.proofs.Instants.{same_instant, begun_all, begun_instants}
use Rattle.sfc_evolve.proofs.times.begin.Goals as goal

pub places-preserved : goal.places-preserved
places-preserved c =
    let t = c.args.activated.t in
    let was = c.places.invariant in
    let found = c.in-Some.ensures.some in
    let begun = rw found.2 at was.rest in
    let marked = rw found.2 at was.marks in
    record {
      rest = cc;
      marks = ap (set_at (places_from c.args.activated.flags.now (c.in-Some.s + 1))) c.set.ensures ∙ marked;
      active_length = ap length c.set.ensures ∙ length-set _ _ _ ∙ was.active_length;
      instants = begun_instants t _ c.places.since c.in-Some.s (same_instant t c.requires.low c.requires.high) c.requires.low
          c.requires.high was.instants;
      within = omega (arith, found.1);
      rises = omega (arith, c.in-Some.ensures.ticks);
      ticks = omega (arith, c.in-Some.ensures.ticks, found);
    }

pub returns-clause-active : goal.returns-clause-active
returns-clause-active c =
    sym (ap (λ (places : List ℕ). set_at places c.places.active) (c.next_set.ensures.none c.in_default.is))
    ∙ c.places.invariant.marks

pub returns-clause-since : goal.returns-clause-since
returns-clause-since c =
    begun_all c.args.activated.t _ (same_instant c.args.activated.t c.requires.low c.requires.high) c.places.since _ (places_from c.args.activated.flags.now 0) c.args.since.now
    (c.next_set.ensures.none c.in_default.is) c.places.invariant.rest

pub returns-clause-ticks : goal.returns-clause-ticks
returns-clause-ticks c =
    let passed = ap (places_passed (length c.args.activated.flags.now) c.places.at) c.in_default.is in
    (omega (arith, c.next_set.ensures.ticks), omega (arith, passed, c.next_set.ensures.ticks))
