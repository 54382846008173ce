-- Faults that are shown one behind the other.
use Rattle.std.proofs.Common.{◌≡◌, ℕ, List, [], ◌∷◌, ◌++◌, length, subst, append-nil, arith}
use Rattle.sfc_names.specs.Diagnosing.{AreFaults}
use Rattle.sfc_names.specs.declared.diagnostic.Diagnostic.{Diagnostic}
use Rattle.sfc_why.specs.declared.report.Report.{Report}

-- where no report is left, what was shown are all
pub all_shown : (text : List ℕ) (rest reports : List Report) (found : List Diagnostic) → length rest ≡ 0
    → ((behind : List Diagnostic) → AreFaults text rest behind → AreFaults text reports (found ++ behind)) → AreFaults text reports found
all_shown text [] reports found e h = subst (AreFaults text reports) (append-nil found) (h [] tt)
all_shown text (report ∷ rest) reports found e h = absurd (omega (arith, e))
