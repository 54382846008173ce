-- What functions answer.
use Rattle.std.specs.Prelude.{Bool, true, false}
use Rattle.sfc_judge.specs.declared.judge.Outcome.{Outcome}
use Rattle.sfc_judge.specs.declared.judge.Outcome.TheVariants.{Passed, Failed}

-- the case passed
abbrev pub is_passed : Outcome → Bool
is_passed Passed = true
is_passed (Failed failure) = false
