-- Reports in the order of the text, one more behind the others.
use Rattle.std.proofs.Common.{◌≡◌, ℕ, zero, suc, ◌≤◌, ◌<◌, List, [], ◌∷◌, ◌++◌, All, slice_index_or, refl, subst, arith}
use Rattle.sfc_why.specs.declared.report.Report.{Report}
use Rattle.sfc_why.specs.Telling.{RisesFrom, start}

-- the place at which one more may begin
abbrev pub next_place : ℕ → List Report → ℕ
next_place least [] = least
next_place least (report ∷ reports) = next_place (suc (start report)) reports

pub rises_more : (least : ℕ) (reports : List Report) (report : Report) → RisesFrom least reports → next_place least reports ≤ start report
    → RisesFrom least (reports ++ report ∷ [])
rises_more least [] report rises le = (le, tt)
rises_more least (first ∷ reports) report (here, rises) le = (here, rises_more (suc (start first)) reports report rises le)

pub next_more : (least : ℕ) (reports : List Report) (report : Report) → next_place least (reports ++ report ∷ []) ≡ suc (start report)
next_more least [] report = refl
next_more least (first ∷ reports) report = next_more (suc (start first)) reports report

-- what holds of one holds of the list of it alone
pub one_holds : (P : Report → Type 0) (report : Report) → P report → All P (report ∷ [])
one_holds P report here = λ k d lt. subst P (only k d report lt) here
  where
    only : (k : ℕ) (d report : Report) → k < 1 → report ≡ slice_index_or (report ∷ []) k d
    only zero d report lt = refl
    only (suc k) d report lt = absurd (omega arith)
