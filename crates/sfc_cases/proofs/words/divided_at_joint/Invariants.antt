use Rattle.std.proofs.Common.{◌≡◌, ◌+◌, ◌++◌, take, drop, length}
use Rattle.std.specs.Prelude.{option_map}
use Rattle.sfc_cases.specs.Conditions.{joint_of}
use Rattle.sfc_cases.specs.Lines.{divided_at}
use Rattle.sfc_cases.proofs.words.divided_at_joint.Given as goal

abbrev pub invariant-all : goal.invariant-all
invariant-all l = record {
  placed : l.rest ≡ drop l.count l.text;
  counted : l.count + length l.rest ≡ length l.text;
  said : divided_at joint_of l.text ≡ option_map (λ d. (take l.count l.text ++ d.0, d.1)) (divided_at joint_of l.rest);
}

abbrev pub decreases-all : goal.decreases-all
decreases-all l = length l.rest
