-- Numbers that are known at each place.
use Rattle.std.proofs.Common.{◌≡◌, ℕ, suc, ◌<◌, arith, List, [], ◌∷◌, length, map, get_or, ℤ, pos, refl}

pub all_by_element : {A : Type 0} (xs : List ℤ) (ys : List A) (f : A → ℤ) → length xs ≡ length ys
    → ((k : ℕ) (d : A) → k < length ys → get_or xs k (pos 0) ≡ f (get_or ys k d)) → xs ≡ map f ys
all_by_element [] [] f long each = refl
all_by_element [] (y ∷ ys) f long each = absurd (omega (arith, long))
all_by_element (x ∷ xs) [] f long each = absurd (omega (arith, long))
all_by_element (x ∷ xs) (y ∷ ys) f long each =
    let first : x ≡ f y = each 0 y (omega arith) in
    let rest : xs ≡ map f ys = all_by_element xs ys f (omega (arith, long)) (λ k d lt. each (suc k) d (omega (arith, lt))) in
    (λ i. first i ∷ rest i)
