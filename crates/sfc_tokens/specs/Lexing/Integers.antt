-- Integers, from left to right.
use Rattle.std.specs.Prelude.{ℕ, ◌+◌, ◌*◌, nat_le, List, [], ◌∷◌, Bool, true, false, ◌==◌, if◌then◌else◌, Option, Some, None, codes}
use Rattle.std.specs.Borrow.{Bor}
use Rattle.sfc_base.specs.Numbers.{digit_of}

infixl 10 ◌>>=◌
abbrev pub ◌>>=◌ : {A B : Type 0} → Option A → (A → Option B) → Option B
None >>= f = None
(Some x) >>= f = f x

-- a number that is not over the limit
abbrev pub at_most : ℕ → ℕ → Option ℕ
at_most limit n = if nat_le n limit then Some n else None

-- the digit behind n, if the byte is one
abbrev pub one_more : ℕ → ℕ → ℕ → ℕ → Option ℕ
one_more base limit n b = digit_of base b >>= λ d. at_most limit (n * base + d)

-- the number that w makes of n
unfoldable pub digits : ℕ → ℕ → Bool → ℕ → List ℕ → Option ℕ
digits base limit true n [] = None
digits base limit false n [] = Some n
digits base limit true n (b ∷ w) = one_more base limit n b >>= λ m. digits base limit false m w
digits base limit false n (b ∷ w) =
    if b == 95 then digits base limit true n w else one_more base limit n b >>= λ m. digits base limit false m w

abbrev pub integer : ℕ → ℕ → List ℕ → Option ℕ
integer base limit w = digits base limit true 0 w

-- what stands behind the given bytes
unfoldable pub after : List ℕ → List ℕ → Option (List ℕ)
after [] w = Some w
after (p ∷ ps) [] = None
after (p ∷ ps) (b ∷ w) = if p == b then after ps w else None

abbrev pub or_else : {A : Type 0} → Option A → Option A → Option A
or_else (Some x) other = Some x
or_else None other = other

-- the digits behind a base, with the base
abbrev pub with_base : ℕ → Option (List ℕ) → Option (ℕ × List ℕ)
with_base base None = None
with_base base (Some w) = Some (base, w)

unfoldable pub base_at : List ℕ → Option (ℕ × List ℕ)
base_at w =
    or_else (with_base 2 (after (codes "2#") w))
    (or_else (with_base 8 (after (codes "8#") w)) (with_base 16 (after (codes "16#") w)))

-- as functions of the code return them
abbrev pub view_slice : Option (Bor (List ℕ)) → Option (List ℕ)
view_slice None = None
view_slice (Some x) = Some x.now

abbrev pub view_base : Option (ℕ × Bor (List ℕ)) → Option (ℕ × List ℕ)
view_base None = None
view_base (Some x) = Some (x.0, x.1.now)
