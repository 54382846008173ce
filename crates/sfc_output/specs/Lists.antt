-- Lists in a line of text (our choice of format).
use Rattle.std.specs.Prelude.{ℕ, Bool, true, false, List, [], ◌∷◌, ◌++◌}

-- each of these texts with a comma before it
abbrev pub followed : List (List ℕ) → List ℕ
followed [] = []
followed (text ∷ texts) = 44 ∷ (text ++ followed texts)

-- the texts with commas between them; a dash where there is none
abbrev pub listed : List (List ℕ) → List ℕ
listed [] = 45 ∷ []
listed (text ∷ texts) = text ++ followed texts

-- the text, if it is wanted
abbrev pub wanted : Bool → List ℕ → List (List ℕ)
wanted true text = text ∷ []
wanted false text = []
