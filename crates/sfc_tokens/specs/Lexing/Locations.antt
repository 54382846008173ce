-- Locations, from left to right.
use Rattle.std.specs.Prelude.{ℕ, zero, suc, ◌-◌, ◌^◌, List, [], ◌∷◌, ◌++◌, ◌==◌, if◌then◌else◌, Option, Some, None}
use Rattle.std.specs.Borrow.{Bor}
use Rattle.sfc_base.specs.declared.run.Alphabet.TheVariants.{Figures}
use Rattle.sfc_base.specs.declared.location.Size.{Size}
use Rattle.sfc_base.specs.declared.location.Size.TheVariants.{Bit}
use Rattle.sfc_base.specs.Private.Runs.{run}
use Rattle.sfc_tokens.specs.Lexing.Integers.{◌>>=◌, integer}
use Rattle.sfc_base.specs.Locations.{LocationData, area_of, size_of}

-- behind a number: the end, or a point and further numbers
abbrev pub pointed : ℕ → List ℕ → (List ℕ → Option (List ℕ)) → Option (List ℕ)
pointed n [] further = Some (n ∷ [])
pointed n (b ∷ rest) further = if b == 46 then (further rest >>= λ ns. Some (n ∷ ns)) else None

abbrev pub number_and_rest : List ℕ × List ℕ → Option (ℕ × List ℕ)
number_and_rest r = integer 10 (2 ^ 32 - 1) r.0 >>= λ n. Some (n, r.1)

-- the integer at the front, and what follows
abbrev pub number_at : List ℕ → Option (ℕ × List ℕ)
number_at w = number_and_rest (run Figures w)

abbrev pub view_number : Option (ℕ × Bor (List ℕ)) → Option (ℕ × List ℕ)
view_number None = None
view_number (Some x) = Some (x.0, x.1.now)

-- at most so many numbers
unfoldable pub numbers : ℕ → List ℕ → Option (List ℕ)
numbers zero w = None
numbers (suc left) w = number_at w >>= λ x. pointed x.0 x.1 (numbers left)

-- the size at the front and what follows, or a bit
abbrev pub sized : Option Size → List ℕ → List ℕ → Size × List ℕ
sized (Some s) inner all = (s, inner)
sized None inner all = (Bit, all)

abbrev pub size_at : List ℕ → Size × List ℕ
size_at [] = (Bit, [])
size_at (b ∷ w) = sized (size_of b) w (b ∷ w)

unfoldable pub location : List ℕ → Option LocationData
location [] = None
location (b ∷ w) = area_of b >>= λ area. numbers 8 (size_at w).1 >>= λ ns. Some (record { area = area; size = (size_at w).0; numbers = ns })

-- What was read before, and what is still read.
abbrev pub with_front : List ℕ → Option (List ℕ) → Option (List ℕ)
with_front front read = read >>= λ ns. Some (front ++ ns)

abbrev pub option_items : {V : Type 0} → (V → List ℕ) → Option V → Option (List ℕ)
option_items view None = None
option_items view (Some v) = Some (view v)
