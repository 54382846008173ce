use Rattle.std.proofs.Common.{◌≡◌, ◌++◌, take, drop}
use Rattle.sfc_cases.specs.Reading.{before_comma}
use Rattle.sfc_cases.proofs.expecting.split_part.Given as goal

abbrev pub invariant-all : goal.invariant-all
invariant-all l = record {
  place : l.count ≡ l.byte-index;
  split : before_comma l.text ≡ (take l.count l.text ++ (before_comma (drop l.count l.text)).0, (before_comma (drop l.count l.text)).1);
}
