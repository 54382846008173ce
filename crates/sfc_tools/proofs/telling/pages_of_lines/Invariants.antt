use Rattle.std.proofs.Common.{◌≡◌, ◌++◌, drop}
use Rattle.sfc_tools.specs.Reports.{pages_of_tests}
use Rattle.sfc_tools.proofs.telling.pages_of_lines.Given as goal

abbrev pub invariant-loop-fault : goal.invariant-loop-fault
invariant-loop-fault l = l.text.items ++ pages_of_tests (drop l.fault-index l.faults) ≡ pages_of_tests l.faults
