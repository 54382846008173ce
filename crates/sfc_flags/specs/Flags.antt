-- Tables of flags as lists.
use Rattle.std.specs.Prelude.{ℕ, suc, ◌-◌, Bool, false, cond, List, [], ◌∷◌, drop, slice_index_or, Option, None, Some}

-- the flag of a place; false beyond the last place
abbrev pub flag : List Bool → ℕ → Bool
flag flags place = slice_index_or flags place false

-- the set places of these flags in rising order, where the first flag is that of place i
abbrev pub set_from : ℕ → List Bool → List ℕ
set_from i [] = []
set_from i (b ∷ flags) = cond b (i ∷ set_from (suc i) flags) (set_from (suc i) flags)

-- the set places from place i on, in rising order
abbrev pub places_from : List Bool → ℕ → List ℕ
places_from flags i = set_from i (drop i flags)

-- how many places of n a search from a place passes: those up to the one that it finds, or all
abbrev pub places_passed : ℕ → ℕ → Option ℕ → ℕ
places_passed n from (Some place) = suc place - from
places_passed n from None = n - from
