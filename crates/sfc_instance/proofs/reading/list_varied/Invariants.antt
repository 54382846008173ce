use Rattle.sfc_instance.specs.Private.Timing.{HaveTimes}
use Rattle.sfc_instance.proofs.reading.list_varied.Given as goal

abbrev pub invariant-loop-k : goal.invariant-loop-k
invariant-loop-k l = HaveTimes l.k l.associations l.times l.varied.items
