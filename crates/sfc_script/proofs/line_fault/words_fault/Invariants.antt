use Rattle.std.proofs.Common.{◌≡◌, ◌+◌, ◌≤◌, length}
use Rattle.sfc_script.specs.LineFaults as faults
use Rattle.sfc_script.proofs.line_fault.words_fault.Given as goal

abbrev pub invariant-all : goal.invariant-all
invariant-all l = record {
  same : faults.words_fault 2 l.wanted l.rest ≡ faults.words_fault l.place l.left l.text;
  bound : l.place + length l.left ≤ 5;
}

abbrev pub decreases-all : goal.decreases-all
decreases-all l = length l.left
