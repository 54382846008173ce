use Rattle.std.proofs.Common.{◌≡◌, ◌++◌, take, drop}
use Rattle.sfc_cases.specs.Files.{before_test}
use Rattle.sfc_judge.proofs.case.split_test.Given as goal

abbrev pub invariant-lines : goal.invariant-lines
invariant-lines l = record {
  place : l.count ≡ l.line-index;
  front : before_test l.lines ≡ take l.count l.lines ++ before_test (drop l.count l.lines);
}
