use Rattle.std.proofs.Common.{◌+◌, ◌≤◌}
use Rattle.sfc_instance.specs.Private.Timing.{AreTimes}
use Rattle.sfc_instance.proofs.Varied.{ReadTo}
use Rattle.sfc_instance.proofs.reading.read_association_times.Given as goal

abbrev pub invariant-loop-k : goal.invariant-loop-k
invariant-loop-k g l = record {
  there : AreTimes l.associations l.times l.varied;
  read : ReadTo l.k-index (g.V.View.environment l.view) l.associations l.times l.varied;
  rises : l.initial.ticks.count ≤ l.ticks.count;
  ticks : l.ticks.count ≤ l.initial.ticks.count + l.k-index;
}
