-- How a listing is laid out (our choice): lines that end with LF, two spaces for each level.
use Rattle.std.specs.Prelude.{ℕ, zero, suc, List, [], ◌∷◌, ◌++◌, flat_map, codes}

abbrev pub indent : ℕ → List ℕ
indent zero = []
indent (suc level) = 32 ∷ 32 ∷ indent level

abbrev pub line : ℕ → List ℕ → List ℕ
line level text = indent level ++ text ++ codes "\n"

-- the texts, each behind a comma
abbrev pub after_commas : List (List ℕ) → List ℕ
after_commas texts = flat_map (λ text. codes ", " ++ text) texts

-- the texts, parted by commas
abbrev pub with_commas : List (List ℕ) → List ℕ
with_commas [] = []
with_commas (text ∷ texts) = text ++ after_commas texts

-- a line for each, between a first and a last one; nothing where there are none
abbrev pub block : {A : Type 0} → ℕ → List ℕ → (A → List ℕ) → List A → List ℕ
block level first text [] = []
block level first text (x ∷ xs) =
    line level first ++ flat_map (λ y. line (suc level) (text y)) (x ∷ xs) ++ line level (codes "END_VAR")
