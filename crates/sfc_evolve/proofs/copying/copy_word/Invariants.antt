use Rattle.std.proofs.Common.{◌≡◌, ℕ, true, length}
use Rattle.sfc_flags.specs.Words.{has}
use Rattle.sfc_flags.proofs.Fewer.{set_count}
use Rattle.sfc_evolve.proofs.Copied.{taken}
use Rattle.sfc_evolve.proofs.copying.copy_word.Given as goal

abbrev pub invariant-moved : goal.invariant-moved
invariant-moved l = record {
  since_length : length l.since ≡ length l.initial.since;
  held_times_length : length l.held_times ≡ length l.initial.held_times;
  flags : (s : ℕ) → has l.left s ≡ true → has l.fn.moved s ≡ true;
  since : (s : ℕ) → taken l.word l.left l.from_since l.since s ≡ taken l.word l.fn.moved l.from_since l.initial.since s;
  held_times : (s : ℕ) → taken l.word l.left l.from_held_times l.held_times s
      ≡ taken l.word l.fn.moved l.from_held_times l.initial.held_times s;
}

abbrev pub decreases-moved : goal.decreases-moved
decreases-moved l = set_count (has l.left) 64
