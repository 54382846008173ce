use Rattle.std.proofs.Common.{◌≡◌, ◌<◌, ℕ, length}
use Rattle.sfc_base.specs.Ticks.{Within}
use Rattle.sfc_flags.specs.Flags.{flag}
use Rattle.sfc_evolve.proofs.starting.mark_initial.Given as goal

abbrev pub invariant-loop-s : goal.invariant-loop-s
invariant-loop-s l = record {
  done : (s : ℕ) → s < l.s → flag l.on s ≡ flag l.tables.initial s;
  len : length l.on ≡ length l.initial.on;
  ticks : Within l.s l.initial.ticks l.ticks;
}
