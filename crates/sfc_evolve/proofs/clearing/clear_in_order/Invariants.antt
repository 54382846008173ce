use Rattle.std.proofs.Common.{◌≡◌, ◌≤◌, ◌+◌, ◌-◌, ℕ, true, drop, length}
use Rattle.sfc_flags.specs.Flags.{flag, places_from}
use Rattle.sfc_evolve.specs.Clearing.{cleared_in, is_enabled, preceding_of}
use Rattle.sfc_evolve.specs.Private.Keeping.{clearing_work}
use Rattle.sfc_evolve.specs.Private.Proposing.{at_places}
use Rattle.sfc_evolve.proofs.clearing.clear_in_order.Given as goal

abbrev pub invariant-candidates : goal.invariant-candidates
invariant-candidates l = record {
  rest : cleared_in l.tables.sides (flag l.active) l.conditions (at_places l.tables.ranked (places_from l.candidates l.at)) l.used l.cleared
      ≡ cleared_in l.tables.sides (flag l.active) l.conditions (at_places l.tables.ranked (places_from l.candidates 0))
      l.initial.used l.initial.cleared;
  enabled : (tr : ℕ) → flag l.cleared tr ≡ true → is_enabled (flag l.active) (preceding_of l.tables.sides tr) ≡ true;
  used_len : length l.used ≡ length l.initial.used;
  cleared_len : length l.cleared ≡ length l.initial.cleared;
  within : l.at ≤ length l.candidates;
  rises : l.initial.ticks.count ≤ l.ticks.count;
  ticks : l.ticks.count + clearing_work l.tables.sides
      (drop l.at l.tables.ranked) ≤ l.initial.ticks.count + clearing_work l.tables.sides l.tables.ranked;
}

abbrev pub decreases-candidates : goal.decreases-candidates
decreases-candidates l = length l.candidates - l.at
