-- Faults, one more behind the others.
use Rattle.std.proofs.Common.{◌≡◌, ℕ, zero, suc, ◌<◌, List, [], ◌∷◌, ◌++◌, All, slice_index_or, refl, subst, arith}
use Rattle.std.proofs.Common.{Result, Err}
use Rattle.std.proofs.lemmas.List.Elements.{All-append}
use Rattle.sfc_script.specs.declared.script.ScriptError.{ScriptError}
use Rattle.sfc_script.specs.declared.script.ScriptError.TheVariants.{Faulty}
use Rattle.sfc_cases.specs.Answers.{Tells}
use Rattle.sfc_cases.specs.Files.{FileData}
use Rattle.sfc_why_tests.specs.Telling.{IsFaultAt}
use Rattle.sfc_why_tests.specs.declared.tests.TestFault.{TestFault}

-- a fault of a line of the text, whichever line that is
abbrev pub IsFaultIn : List ℕ → TestFault → Type 0
IsFaultIn text fault = IsFaultAt text fault.line fault

of_line : (text : List ℕ) (line : ℕ) (fault : TestFault) → IsFaultAt text line fault → IsFaultIn text fault
of_line text line fault is = (refl, is.1)

-- what holds of one holds of the list of it alone
one_holds : (P : TestFault → Type 0) (fault : TestFault) → P fault → All P (fault ∷ [])
one_holds P fault here = λ k d lt. subst P (only k d fault lt) here
  where
    only : (k : ℕ) (d fault : TestFault) → k < 1 → fault ≡ slice_index_or (fault ∷ []) k d
    only zero d fault lt = refl
    only (suc k) d fault lt = absurd (omega arith)

pub one_more : (text : List ℕ) (faults : List TestFault) (line : ℕ) (fault : TestFault) → All (IsFaultIn text) faults → IsFaultAt text line fault
    → All (IsFaultIn text) (faults ++ fault ∷ [])
one_more text faults line fault all is =
    All-append (IsFaultIn text) faults (fault ∷ []) all (one_holds (IsFaultIn text) fault (of_line text line fault is))

-- what a file says, where its reading is refused at a line
pub refused : {said : Result FileData ℕ} {error : ScriptError} {line : ℕ} → error ≡ Faulty line → Tells said (Err error) → said ≡ Err line
refused {said} e told = subst (λ error. Tells said (Err error)) e told
