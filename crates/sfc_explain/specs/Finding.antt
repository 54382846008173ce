-- Explanations by number and by name.
use Rattle.std.specs.Prelude.{ℕ, List, [], ◌∷◌, find, Bool, false, ◌==◌, Option, Some, None}
use Rattle.sfc_base.specs.Case.{same_word}
use Rattle.sfc_explain.specs.declared.explanation.Explanation.{Explanation}
use Rattle.sfc_explain.specs.Topics.{number_of, name_of}

-- whether there is a number, and it is this one
abbrev pub is_number : ℕ → Option ℕ → Bool
is_number n None = false
is_number n (Some m) = m == n

-- whether the explanation has the number
abbrev pub is_numbered : ℕ → Explanation → Bool
is_numbered n explanation = is_number n (number_of explanation.topic)

-- whether the explanation has the name, in any case of its letters
abbrev pub is_named : List ℕ → Explanation → Bool
is_named name explanation = same_word (name_of explanation.topic) name

-- whether the explanation has the number, or where none is given the name
abbrev pub is_sought : Option ℕ → List ℕ → Explanation → Bool
is_sought (Some n) name = is_numbered n
is_sought None name = is_named name

-- the first of two, where there is one, else the second
abbrev pub or_else : Option Explanation → Option Explanation → Option Explanation
or_else None other = other
or_else (Some explanation) other = Some explanation

-- the first that is sought, in these tables one after the other
abbrev pub sought_in : Option ℕ → List ℕ → List (List Explanation) → Option Explanation
sought_in number name [] = None
sought_in number name (table ∷ tables) = or_else (find (is_sought number name) table) (sought_in number name tables)
