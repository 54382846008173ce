use Rattle.std.proofs.Common.{◌≡◌, ◌++◌}
use Rattle.sfc_run.specs.Alarms.{fault_lines}
use Rattle.sfc_run.proofs.alarms.append_faults.Given as goal

abbrev pub invariant-loop-k : goal.invariant-loop-k
invariant-loop-k l = l.out.items ≡ l.initial.out.items ++ fault_lines l.plant l.faulted l.k
