use Rattle.std.proofs.Common.{All, length}
use Rattle.sfc_cases.specs.Answers.{text_in}
use Rattle.sfc_why_tests.specs.Telling.{IsFaultAt}
use Rattle.sfc_why_tests.proofs.tests.missing_names.Given as goal

abbrev pub invariant-lines : goal.invariant-lines
invariant-lines l = All (λ fault. IsFaultAt (text_in l.sources) fault.line fault) l.faults.items

abbrev pub decreases-lines : goal.decreases-lines
decreases-lines l = length l.rest
