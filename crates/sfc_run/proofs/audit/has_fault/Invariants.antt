use Rattle.std.proofs.Common.{◌≡◌}
use Rattle.sfc_events.specs.History.{History}
use Rattle.sfc_control.specs.sfc_core.Agreement.{Agrees, plant_of}
use Rattle.sfc_run.specs.Auditing.{any_faulted}
use Rattle.sfc_run.proofs.audit.has_fault.Given as goal

abbrev pub invariant-loop-k : goal.invariant-loop-k
invariant-loop-k l = (h : History) → Agrees l.resource h → l.found ≡ any_faulted (plant_of l.resource) h l.k
