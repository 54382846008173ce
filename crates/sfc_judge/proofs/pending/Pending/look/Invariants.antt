use Rattle.std.proofs.Common.{◌≡◌, ◌∷◌, ◌++◌, ◌&&◌, List, take, drop, length}
use Rattle.std.specs.Prelude.{map}
use Rattle.sfc_judge.specs.Moments.{Moment}
use Rattle.sfc_judge.specs.Running.Benches.{Stands, steered_in}
use Rattle.sfc_judge.specs.Running.Watching.{all_held, as_held}
use Rattle.sfc_judge.proofs.pending.Pending.look.Given as goal

abbrev pub invariant-watched : goal.invariant-watched
invariant-watched l = (m : Moment) → Stands l.bench m → (ms : List Moment)
    → all_held (steered_in l.bench) (map as_held l.fn.self.watched.items) (m ∷ ms)
    ≡ (all_held (steered_in l.bench) (map as_held (take l.watched-index l.watched-items)) ms
    && all_held (steered_in l.bench) (map as_held (drop l.watched-index l.watched-items)) (m ∷ ms))
