use Rattle.std.proofs.Common.{◌≡◌, length}
use Rattle.sfc_judge.specs.Moments.{Moment, truth, truth_from}
use Rattle.sfc_judge.specs.Running.Benches.{Stands, steered_in}
use Rattle.sfc_judge.proofs.bench.Bench.truth.Given as goal

abbrev pub invariant-parts : goal.invariant-parts
invariant-parts l = (m : Moment) → Stands l.self m → truth (steered_in l.self) m l.condition
    ≡ truth_from (steered_in l.self) m l.whole l.current l.rest

abbrev pub decreases-parts : goal.decreases-parts
decreases-parts l = length l.rest
