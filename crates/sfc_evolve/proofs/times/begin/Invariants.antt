use Rattle.std.proofs.Common.{◌≡◌, ◌≤◌, ◌+◌, ◌-◌, length}
use Rattle.sfc_flags.specs.Flags.{places_from}
use Rattle.sfc_base.specs.Instants.{AreInstants}
use Rattle.sfc_evolve.specs.Private.Keeping.{begun_at, set_at}
use Rattle.sfc_evolve.proofs.times.begin.Given as goal

abbrev pub invariant-places : goal.invariant-places
invariant-places l = record {
  rest : begun_at l.t (places_from l.flags l.at) l.since ≡ begun_at l.t (places_from l.flags 0) l.initial.since;
  marks : set_at (places_from l.flags l.at) l.active ≡ set_at (places_from l.flags 0) l.initial.active;
  active_length : length l.active ≡ length l.initial.active;
  instants : AreInstants l.since;
  within : l.at ≤ length l.flags;
  rises : l.initial.ticks.count ≤ l.ticks.count;
  ticks : l.ticks.count + (length l.flags - l.at) ≤ l.initial.ticks.count + length l.flags;
}

abbrev pub decreases-places : goal.decreases-places
decreases-places l = length l.flags - l.at
