use Rattle.std.proofs.Common.{◌≡◌, ◌≤◌, ◌+◌, ◌-◌, drop, length}
use Rattle.sfc_flags.specs.Flags.{places_from}
use Rattle.sfc_evolve.specs.Marks.{marked}
use Rattle.sfc_evolve.specs.Clearing.{preceding_of, following_of}
use Rattle.sfc_evolve.specs.Private.Keeping.{changed_by, left_by, moving_work, unmarked}
use Rattle.sfc_evolve.proofs.marking.move_on.Given as goal

abbrev pub invariant-cleared : goal.invariant-cleared
invariant-cleared l = record {
  active : changed_by unmarked (preceding_of l.tables.sides) (places_from l.flags l.at) l.active
      ≡ changed_by unmarked (preceding_of l.tables.sides) (places_from l.flags 0) l.initial.active;
  active_length : length l.active ≡ length l.initial.active;
  held_times : left_by l.t l.since (preceding_of l.tables.sides) (places_from l.flags l.at) l.held_times
      ≡ left_by l.t l.since (preceding_of l.tables.sides) (places_from l.flags 0) l.initial.held_times;
  on : changed_by marked (following_of l.tables.sides) (places_from l.flags l.at) l.on
      ≡ changed_by marked (following_of l.tables.sides) (places_from l.flags 0) l.initial.on;
  on_length : length l.on ≡ length l.initial.on;
  within : l.at ≤ length l.flags;
  rises : l.initial.ticks.count ≤ l.ticks.count;
  ticks : l.ticks.count + moving_work (drop l.at l.tables.sides) ≤ l.initial.ticks.count + moving_work l.tables.sides;
}

abbrev pub decreases-cleared : goal.decreases-cleared
decreases-cleared l = length l.flags - l.at
