use Rattle.std.proofs.Common.{◌≡◌}
use Rattle.sfc_judge.specs.Moments.{Moment}
use Rattle.sfc_judge.specs.Running.Benches.{IsReady, Stands, steered_in}
use Rattle.sfc_judge.proofs.Trying.{GoesThrough}
use Rattle.sfc_judge.proofs.bench.Bench.take_turn.Given as goal

abbrev pub invariant-tasks : goal.invariant-tasks
invariant-tasks l = record {
  ready : IsReady l.initial.self → IsReady l.self;
  steered : steered_in l.self ≡ steered_in l.initial.self;
  through : (m : Moment) → Stands l.initial.self m → GoesThrough (steered_in l.initial.self) m l.raw l.self l.number l.earliest;
}
