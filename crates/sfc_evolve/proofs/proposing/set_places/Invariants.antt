use Rattle.std.proofs.Common.{◌≡◌, drop, length}
use Rattle.sfc_base.specs.Ticks.{Within}
use Rattle.sfc_evolve.specs.Private.Keeping.{set_at}
use Rattle.sfc_evolve.proofs.proposing.set_places.Given as goal

abbrev pub invariant-loop-place : goal.invariant-loop-place
invariant-loop-place l = record {
  rest : set_at (drop l.place-index l.places) l.flags ≡ set_at l.places l.initial.flags;
  len : length l.flags ≡ length l.initial.flags;
  ticks : Within l.place-index l.initial.ticks l.ticks;
}
