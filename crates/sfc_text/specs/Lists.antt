-- What holds of the lists in every tree.
use Rattle.std.specs.Prelude.{List, [], ◌∷◌, Bool, true, false}

-- a list without elements
abbrev pub is_empty : {A : Type 0} → List A → Bool
is_empty [] = true
is_empty (x ∷ xs) = false
