use Rattle.std.proofs.Common.{◌≡◌, ◌+◌, ◌++◌, take, drop, length}
use Rattle.std.specs.Prelude.{option_map}
use Rattle.sfc_cases.specs.Lines.{divided}
use Rattle.sfc_cases.proofs.words.divided.Given as goal

abbrev pub invariant-all : goal.invariant-all
invariant-all l = record {
  placed : l.rest ≡ drop l.count l.text;
  counted : l.count + length l.rest ≡ length l.text;
  said : divided l.keyword l.text ≡ option_map (λ d. (take l.count l.text ++ d.0, d.1)) (divided l.keyword l.rest);
}

abbrev pub decreases-all : goal.decreases-all
decreases-all l = length l.rest
