use Rattle.std.proofs.Common.{◌≡◌}
use Rattle.sfc_judge.specs.Moments.{Moment}
use Rattle.sfc_judge.specs.Running.Benches.{IsReady, Stands, steered_in}
use Rattle.sfc_judge.specs.Running.Cases.{lines_in}
use Rattle.sfc_judge.specs.Running.Watching.{held_in}
use Rattle.sfc_judge.proofs.Running.{IsRunning}
use Rattle.sfc_judge.proofs.judge.run.Given as goal

abbrev pub invariant-scans : goal.invariant-scans
invariant-scans l = record {
  ready : IsReady l.initial.bench → IsReady l.bench;
  steered : steered_in l.bench ≡ steered_in l.initial.bench;
  running : (m : Moment) → Stands l.initial.bench m → (at : Moment) × Stands l.bench at
      × IsRunning (steered_in l.initial.bench) l.until l.limit m (lines_in l.behind) (held_in l.initial.pending) (held_in l.pending) l._scan at;
}
