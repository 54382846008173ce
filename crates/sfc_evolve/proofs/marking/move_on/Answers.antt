use Rattle.std.proofs.Common.{◌≡◌, ◌+◌, suc, arith, length, drop, ap}
use Rattle.std.proofs.lemmas.List.{length-drop}
use Rattle.sfc_flags.specs.Flags.{places_passed}
use Rattle.sfc_evolve.specs.Private.Keeping.{moving_work}
use Rattle.sfc_evolve.proofs.TableFacts.{preceding_below, following_below, moving_left, moving_covers}
use Rattle.sfc_evolve.proofs.marking.move_on.Goals as goal

pub leave-requires-clause-steps : goal.leave-requires-clause-steps
leave-requires-clause-steps c =
    preceding_below c.args.scan.tables.now c.requires.tables (length c.args.since.now) c.requires.since_len record { 0 = c.in-Some.tr }
    (omega (arith, c.in-Some.ensures.some))
    c.preceding-preceding.result.now c.preceding-preceding.ensures

pub unmark-requires : goal.unmark-requires
unmark-requires c =
    preceding_below c.args.scan.tables.now c.requires.tables (length c.cleared.active) (omega arith) record { 0 = c.in-Some.tr }
    (omega (arith, c.in-Some.ensures.some))
    c.preceding-preceding.result.now c.preceding-preceding.ensures

pub mark-requires : goal.mark-requires
mark-requires c =
    following_below c.args.scan.tables.now c.requires.tables (length c.cleared.on) (omega arith) record { 0 = c.in-Some.tr }
    (omega (arith, c.in-Some.ensures.some))
    c.following.result.now c.following.ensures

pub cleared-preserved : goal.cleared-preserved
cleared-preserved c =
    let sides = c.args.scan.tables.now.sides in
    let tr = c.in-Some.tr in
    let s : suc tr ≡ tr + 1 = omega arith in
    record {
      active = rw (c.unmark.ensures.flags, c.preceding-preceding.ensures) (rw c.in-Some.ensures.some.2 at c.cleared.invariant.active);
      active_length = omega arith;
      held_times = rw (c.leave.ensures.held_times, c.preceding-preceding.ensures) (rw c.in-Some.ensures.some.2 at c.cleared.invariant.held_times);
      on = rw (c.mark.ensures.flags, c.following.ensures) (rw c.in-Some.ensures.some.2 at c.cleared.invariant.on);
      on_length = omega arith;
      within = omega (arith, c.in-Some.ensures.some);
      rises = omega (arith, c.in-Some.ensures.ticks, c.leave.ensures.ticks, c.unmark.ensures.ticks, c.mark.ensures.ticks);
      ticks =
          omega (
            arith,
            moving_left sides c.cleared.at tr (omega (arith, c.in-Some.ensures.some)) (omega (arith, c.in-Some.ensures.some)),
            ap (λ k. moving_work (drop k sides)) s,
            ap length c.preceding-preceding.ensures,
            ap length c.following.ensures,
            c.in-Some.ensures.ticks,
            c.leave.ensures.ticks,
            c.unmark.ensures.ticks,
            c.mark.ensures.ticks,
          );
    }

pub returns-clause-ticks : goal.returns-clause-ticks
returns-clause-ticks c =
    let at = c.cleared.at in
    let sides = c.args.scan.tables.now.sides in
    let passed = ap (places_passed (length c.args.scan.flags.now) at) c.in_default.is in
    let covers = moving_covers (drop at sides) in
    (omega (arith, c.next_set.ensures.ticks), omega (arith, passed, c.next_set.ensures.ticks, covers, length-drop at sides))
