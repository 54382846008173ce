-- Tables of words, each of which has the rows of 64 actions.
use Rattle.std.specs.Prelude.{ℕ, ◌≡◌, ◌≤◌, Bool, List, length, map, slice_index_or}
use Rattle.std.specs.List.{range_with_len}
use Rattle.std.specs.Int.{div_ceil}
use Rattle.sfc_flags.specs.Words.{word_of}

-- the row of action a, where `row` takes it out of a word; `none` past the last word
abbrev pub row_at : {W R : Type 0} → (W → ℕ → R) → R → List W → ℕ → R
row_at row none words a = slice_index_or (map (λ word. row word a) words) (word_of a) none

-- as many words as n actions take, and no flag past the last action
pub record IsTable {W R : Type 0} (row : W → ℕ → R) (none : R) (n : ℕ) (words : List W) : Type 0 where
  pub sized : length words ≡ div_ceil n 64
  pub blank : (a : ℕ) → n ≤ a → row_at row none words a ≡ none

-- the set of those of n actions that have this flag
abbrev pub set_of : ℕ → (ℕ → Bool) → List Bool
set_of n flag = map flag (range_with_len 0 n)
