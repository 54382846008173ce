-- What has come of the cases so far.
use Rattle.std.specs.Prelude.{ℕ, ◌+◌, ◌-◌, ◌^◌, min, if◌then◌else◌, List, [], ◌∷◌, ◌++◌}
use Rattle.std.specs.Fmt.{decimal}
use Rattle.sfc_test.specs.declared.asked.Asked.{Asked}
use Rattle.sfc_test.specs.declared.asked.Asked.TheVariants.{Names, Results, Tap}
use Rattle.sfc_test.specs.declared.part.Part.TheVariants as parts
use Rattle.sfc_test.specs.Documents.{document, element_of}
use Rattle.sfc_test.specs.Parts.{part_text}
use Rattle.sfc_test.specs.Results.{CaseResult}
use Rattle.sfc_test.specs.Texts.{text_of}

-- how many cases have passed and failed, and the elements of all of them
pub record Tally : Type 0 where
  pub passed : ℕ
  pub failed : ℕ
  pub elements : List ℕ

abbrev pub no_cases : Tally
no_cases = record { passed = 0; failed = 0; elements = [] }

-- as far as 64 bits go
abbrev pub counted : ℕ → ℕ
counted n = min n (2 ^ 64 - 1)

-- how many there were
abbrev pub total : Tally → ℕ
total tally = counted (tally.passed + tally.failed)

-- behind one more, of a file of this name
abbrev pub behind_one : List ℕ → Tally → CaseResult → Tally
behind_one file tally r = record {
  passed = if r.passed then counted (tally.passed + 1) else tally.passed;
  failed = if r.passed then tally.failed else counted (tally.failed + 1);
  elements = tally.elements ++ element_of file r;
}

abbrev pub behind_results : List ℕ → Tally → List CaseResult → Tally
behind_results file tally [] = tally
behind_results file tally (r ∷ results) = behind_results file (behind_one file tally r) results

-- each result as it is asked, with how many there are then
abbrev pub results_text : Asked → List ℕ → Tally → List CaseResult → List ℕ
results_text asked file tally [] = []
results_text asked file tally (r ∷ results) =
    text_of asked (total (behind_one file tally r)) r ++ results_text asked file (behind_one file tally r) results

-- ---- what stands at the end

unfoldable pub failed_count : ℕ → List ℕ
failed_count failed = decimal failed ++ part_text parts.FailedCount

unfoldable pub counts_text : ℕ → ℕ → List ℕ
counts_text passed failed = decimal passed ++ (part_text parts.PassedCount ++ failed_count failed)

unfoldable pub plan_text : ℕ → List ℕ
plan_text count = part_text parts.TapPlan ++ (decimal count ++ part_text parts.LineEnd)

-- how many have passed and failed, or how many there were; nothing behind titles
abbrev pub ending_text : Asked → Tally → List ℕ
ending_text Names tally = []
ending_text Results tally = counts_text tally.passed tally.failed
ending_text Tap tally = plan_text (total tally)

-- all of them as XML, of a chart of this name
abbrev pub document_text : List ℕ → Tally → List ℕ
document_text chart tally = document chart (total tally) tally.failed tally.elements
