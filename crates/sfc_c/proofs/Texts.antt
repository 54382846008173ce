-- Texts of lists, an element at a time.
use Rattle.std.proofs.Common.{◌≡◌, ℕ, ◌+◌, ◌<◌, List, ◌++◌, length, take, get_or, flat_map, arith}
use Rattle.std.proofs.lemmas.Grind.{common_steps}

-- one element more
pub grown : {A : Type 0} (f : A → List ℕ) (xs : List A) (i : ℕ) (d : A) → i < length xs
    → flat_map f (take (i + 1) xs) ≡ flat_map f (take i xs) ++ f (get_or xs i d)
grown f xs i d lt = grind (arith, common_steps)
