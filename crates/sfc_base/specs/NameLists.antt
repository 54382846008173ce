-- Names among names: the case of letters is not significant (2.1.2).
use Rattle.std.specs.Prelude.{ℕ, Bool, List, Option, position}
use Rattle.std.specs.List.{list_any}
use Rattle.sfc_base.specs.Case.{same_word}

-- the first place of a name among names
abbrev pub place_of : List ℕ → List (List ℕ) → Option ℕ
place_of name names = position (same_word name) names

-- the name is among them
abbrev pub has : List (List ℕ) → List ℕ → Bool
has names name = list_any (same_word name) names
