use Rattle.std.proofs.Common.{◌≡◌, ◌+◌}
use Rattle.sfc_base.proofs.ticks.Ticks.tick_all.Given as goal

abbrev pub invariant-loop-k : goal.invariant-loop-k
invariant-loop-k l = l.self.count ≡ l.initial.self.count + l._k
