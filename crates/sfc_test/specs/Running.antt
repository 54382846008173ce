-- What is cited of cases that are run.
use Rattle.std.specs.Prelude.{◌≡◌, ℕ, Bool, true, false, List, [], ◌++◌, ◌∷◌, map, Option, Some, None, option_map}
use Rattle.sfc_cases.specs.Files.{own_cases}
use Rattle.sfc_cases.specs.declared.line.Line.{Line}
use Rattle.sfc_judge.specs.Running.Cases.{lines_in}
use Rattle.sfc_replay.specs.sfc_debug.Steered.{Steered}
use Rattle.sfc_test.specs.declared.asked.Asked.{Asked}
use Rattle.sfc_test.specs.declared.results.Results.{Results}
use Rattle.sfc_test.specs.declared.running.Judged.{Judged}
use Rattle.sfc_test.specs.declared.running.Judged.TheVariants.{Passed, Failed}
use Rattle.sfc_test.specs.declared.titled.Titled.{Titled}
use Rattle.sfc_test.specs.declared.titled.Titles.{Titles}
use Rattle.sfc_test.specs.Cases.{TitledCase, beside, names_in}
use Rattle.sfc_test.specs.Results.{CaseResult, outcome_in, outcome_of}
use Rattle.sfc_test.specs.Tallies.{Tally, behind_one, total}
use Rattle.sfc_test.specs.Texts.{text_of}

-- what has come of the cases
abbrev pub tally_of : Results → Tally
tally_of results = record { passed = results.passed; failed = results.failed; elements = results.elements.items }

-- ---- one case

abbrev pub case_in : Titled → TitledCase
case_in one = record { title = one.title.now; lines = lines_in one.case }

-- whether it passed, and what is told of it
abbrev pub has_passed : Judged → Bool
has_passed Passed = true
has_passed (Failed told) = false

abbrev pub told_in : Judged → List ℕ
told_in Passed = []
told_in (Failed told) = told.items

abbrev pub result_of : List ℕ → Judged → CaseResult
result_of title judged = record { title = title; passed = has_passed judged; told = told_in judged }

-- What came of a case is told, and counted.
pub record Runs (steered : Steered) (file : List ℕ) (asked : Asked) (one : TitledCase) (old new : Tally) (text : List ℕ) : Type 0 where
  pub came : CaseResult
  pub outcome : outcome_in came ≡ outcome_of steered one
  pub told : text ≡ text_of asked (total new) came
  pub counted : new ≡ behind_one file old came

-- ---- cases that are left

-- those behind the TESTs among these lines, with what stands before the first
abbrev pub titled_behind : List Line → List Line → List TitledCase
titled_behind front lines = beside (names_in lines) (map (λ own. front ++ own) (own_cases lines))

-- where there is no TEST, the one case
abbrev pub whole_case : Option (List ℕ) → List Line → List TitledCase → List TitledCase
whole_case None lines others = others
whole_case (Some file) lines others = record { title = file; lines = lines } ∷ []

abbrev pub cases_left : Titles → List TitledCase
cases_left titles =
    whole_case (option_map (λ title. title.now) titles.whole) (titles.front.now ++ titles.rest.now) (titled_behind titles.front.now titles.rest.now)
