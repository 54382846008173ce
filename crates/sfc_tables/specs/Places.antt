-- The places of a list by what stands there.
use Rattle.std.specs.Prelude.{ℕ, ◌==◌, List, length, filter, slice_index_or}
use Rattle.std.specs.List.{range_with_len}

-- the places at which this number stands among these, in rising order
abbrev pub places_of : List ℕ → ℕ → List ℕ
places_of numbers n = filter (λ j. slice_index_or numbers j 0 == n) (range_with_len 0 (length numbers))
