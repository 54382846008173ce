-- Lines that are answered one after the other.
use Rattle.std.proofs.Common.{◌≡◌, ◌++◌, ◌∷◌, [], append_assoc, ℕ, List, refl, subst, sym}
use Rattle.std.proofs.lemmas.List.{append-nil}
use Rattle.sfc_prompt.specs.declared.prompt.Prompt.{Prompt}
use Rattle.sfc_prompt.specs.Walks.{IsAnswered}
use Rattle.sfc_tools.specs.Answers.{AreAnswered}

-- Lines were answered with this text; what is left is put behind it.
abbrev pub GoesOn : List (List ℕ) → List (List ℕ) → Prompt → Prompt → List ℕ → Type 0
GoesOn lines rest old now told =
    (new : Prompt) (more : List ℕ) → AreAnswered rest now new more → AreAnswered lines old new (told ++ more)

-- no line is left
pub all_answered : (lines rest : List (List ℕ)) (old now : Prompt) (told : List ℕ) → rest ≡ [] → GoesOn lines rest old now told
    → AreAnswered lines old now told
all_answered lines rest old now told e so_far =
    subst (AreAnswered lines old now) (append-nil told)
    (so_far now [] (subst (λ left. AreAnswered left now now []) (sym e) (refl, refl)))

-- a line more
pub line_more : (lines rest after : List (List ℕ)) (line : List ℕ) (old now next : Prompt) (told first : List ℕ) → rest ≡ line ∷ after
    → IsAnswered now next line first → GoesOn lines rest old now told → GoesOn lines after old next (told ++ first)
line_more lines rest after line old now next told first e answered so_far new more others =
    rw (append_assoc told first more)
    (so_far new (first ++ more) (subst (λ left. AreAnswered left now new (first ++ more)) (sym e) (next, first, more, answered, others, refl)))
