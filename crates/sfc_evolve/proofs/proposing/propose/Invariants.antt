use Rattle.std.proofs.Common.{◌≡◌, ◌≤◌, ◌+◌, ◌-◌, drop, length}
use Rattle.std.specs.Prelude.{sum_by}
use Rattle.std.specs.List.{range_with_len}
use Rattle.sfc_flags.specs.Flags.{places_from}
use Rattle.sfc_tables.specs.Departures.{first_steps}
use Rattle.sfc_evolve.specs.Private.Proposing.{proposed_by}
use Rattle.sfc_evolve.proofs.Proposed.{share}
use Rattle.sfc_evolve.proofs.proposing.propose.Given as goal

abbrev pub invariant-steps : goal.invariant-steps
invariant-steps l = record {
  rest : proposed_by l.tables (places_from l.active l.at) l.candidates
      ≡ proposed_by l.tables (places_from l.active 0) l.initial.candidates;
  len : length l.candidates ≡ length l.initial.candidates;
  within : l.at ≤ length l.active;
  rises : l.initial.ticks.count ≤ l.ticks.count;
  ticks : l.ticks.count + (length l.active - l.at)
      + sum_by (share (first_steps l.tables.sides l.tables.ranked)) (drop l.at (range_with_len 0 (length l.active)))
      ≤ l.initial.ticks.count + length l.active + length l.tables.sides;
}

abbrev pub decreases-steps : goal.decreases-steps
decreases-steps l = length l.active - l.at
