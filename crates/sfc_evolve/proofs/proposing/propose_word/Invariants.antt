use Rattle.std.proofs.Common.{◌≡◌, ◌≤◌, ◌+◌, ℕ, drop, length}
use Rattle.std.specs.Prelude.{sum_by}
use Rattle.std.specs.List.{range_with_len}
use Rattle.sfc_flags.specs.Flags.{places_from}
use Rattle.sfc_flags.specs.Words.{has}
use Rattle.sfc_tables.specs.Departures.{first_steps}
use Rattle.sfc_evolve.specs.Private.Proposing.{proposed_by}
use Rattle.sfc_flags.proofs.Fewer.{set_count}
use Rattle.sfc_evolve.proofs.Proposed.{share}
use Rattle.sfc_evolve.proofs.Walked.{IsLeft}
use Rattle.sfc_evolve.proofs.proposing.propose_word.Given as goal

abbrev pub invariant-steps : goal.invariant-steps
invariant-steps l = record {
  at : ℕ;
  left : IsLeft l.active l.left at;
  rest : proposed_by l.tables (places_from l.active at) l.candidates
      ≡ proposed_by l.tables (places_from l.active 0) l.initial.candidates;
  len : length l.candidates ≡ length l.initial.candidates;
  rises : l.initial.ticks.count ≤ l.ticks.count;
  ticks : l.ticks.count
      + sum_by (share (first_steps l.tables.sides l.tables.ranked)) (drop at (range_with_len 0 (length l.active)))
      ≤ l.initial.ticks.count + length l.tables.sides;
}

abbrev pub decreases-steps : goal.decreases-steps
decreases-steps l = set_count (has l.left) 64
