-- What comes of cases.
use Rattle.std.specs.Prelude.{◌≡◌, ℕ, Bool, not, List, filter, length, map}
use Rattle.sfc_judge.specs.Holding.{passes}
use Rattle.sfc_replay.specs.sfc_debug.Steered.{Steered}
use Rattle.sfc_test.specs.Cases.{TitledCase}

-- what came of a case: its title, whether it passed, and what is told of it where it failed
pub record CaseResult : Type 0 where
  pub title : List ℕ
  pub passed : Bool
  pub told : List ℕ

-- its title, and whether it passed
pub record Outcome : Type 0 where
  pub title : List ℕ
  pub passed : Bool

abbrev pub outcome_in : CaseResult → Outcome
outcome_in r = record { title = r.title; passed = r.passed }

-- over this plant a case passes just where each of its lines is right
abbrev pub outcome_of : Steered → TitledCase → Outcome
outcome_of steered one = record { title = one.title; passed = passes steered one.lines }

-- These came of these cases, one of each and in their order. What is told of a case that failed is free.
abbrev pub AreResults : Steered → List TitledCase → List CaseResult → Type 0
AreResults steered cases results = map outcome_in results ≡ map (outcome_of steered) cases

-- how many of them passed, and how many failed
abbrev pub passed_among : List CaseResult → ℕ
passed_among results = length (filter (λ r. r.passed) results)

abbrev pub failed_among : List CaseResult → ℕ
failed_among results = length (filter (λ r. not r.passed) results)
