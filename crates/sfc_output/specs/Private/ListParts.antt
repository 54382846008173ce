-- Lists that are written text by text.
use Rattle.std.specs.Prelude.{ℕ, Bool, true, false, List, [], ◌∷◌}
use Rattle.sfc_output.specs.Lists.{listed, followed}

-- the same behind texts that stand already, or at the beginning
abbrev pub continued : Bool → List (List ℕ) → List ℕ
continued true texts = listed texts
continued false texts = followed texts

-- what parts a text from one before it
abbrev pub separator : Bool → List ℕ
separator true = []
separator false = 44 ∷ []
