-- Instants of the run clock, in microseconds.
use Rattle.std.specs.Prelude.{ℕ, ◌≤ℤ◌, ◌^◌, List, ℤ, pos, slice_index_or}

-- each is an instant, from 0 to 2^62
abbrev pub AreInstants : List ℤ → Type 0
AreInstants instants = (k : ℕ) →
    (pos 0 ≤ℤ slice_index_or instants k (pos 0)) × (slice_index_or instants k (pos 0) ≤ℤ pos (2 ^ 62))
