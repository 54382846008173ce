use Rattle.std.proofs.Common.{◌≡◌, length}
use Rattle.sfc_flags.specs.Words.{AreDone}
use Rattle.sfc_evolve.specs.Private.Keeping.{number}
use Rattle.sfc_evolve.proofs.Copied.{joined}
use Rattle.sfc_evolve.proofs.copying.copy_moved.Given as goal

abbrev pub invariant-loop-number : goal.invariant-loop-number
invariant-loop-number l = record {
  since_length : length l.since ≡ length l.initial.since;
  held_times_length : length l.held_times ≡ length l.initial.held_times;
  since : AreDone l.number (joined l.active l.on l.from.since.now l.initial.since) (number l.initial.since) (number l.since);
  held_times : AreDone l.number (joined l.active l.on l.from.held_times.now l.initial.held_times) (number l.initial.held_times)
      (number l.held_times);
}
