use Rattle.std.proofs.Common.{◌≡◌, length}
use Rattle.sfc_judge.specs.Holding.{passes}
use Rattle.sfc_judge.specs.Moments.{Moment}
use Rattle.sfc_judge.specs.Running.Benches.{IsReady, Stands, steered_in}
use Rattle.sfc_judge.specs.Running.Cases.{lines_in}
use Rattle.sfc_judge.specs.Running.Watching.{held_in, rest_passes}
use Rattle.sfc_judge.proofs.judge.judge.Given as goal

abbrev pub invariant-lines : goal.invariant-lines
invariant-lines l = record {
  ready : IsReady l.bench;
  steered : steered_in l.bench ≡ steered_in l.fn.bench;
  rest : (m : Moment) × Stands l.bench m × (passes (steered_in l.fn.bench) (lines_in l.case)
      ≡ rest_passes (steered_in l.fn.bench) m (held_in l.pending) (lines_in l.rest));
}

abbrev pub decreases-lines : goal.decreases-lines
decreases-lines l = length (lines_in l.rest)
