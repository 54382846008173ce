-- The front of a list.
use Rattle.std.specs.Prelude.{Bool, cond, List, [], ◌∷◌}

-- the elements up to the first of which p doesn't hold
abbrev pub leading : {A : Type 0} → (A → Bool) → List A → List A
leading p [] = []
leading p (x ∷ xs) = cond (p x) (x ∷ leading p xs) []
