-- What is kept.
use Rattle.std.proofs.Common.{◌≡◌, ℕ, zero, suc, List, [], ◌∷◌, ◌++◌, length, Some, slice_get, subst, arith}
use Rattle.std.proofs.lemmas.Option.{same_Some}

-- what holds of all holds with one more
pub all_pushed : {X : Type 0} (P : ℕ → X → Type 0) (xs : List X) (x : X) → ((k : ℕ) (y : X) → slice_get xs k ≡ Some y → P k y) → P (length xs) x
    → (k : ℕ) (y : X) → slice_get (xs ++ x ∷ []) k ≡ Some y → P k y
all_pushed P [] x all p zero y e = subst (λ z. P 0 z) (same_Some x y e) p
all_pushed P [] x all p (suc k) y e = absurd (grind (arith, e))
all_pushed P (z ∷ zs) x all p zero y e = all 0 y e
all_pushed P (z ∷ zs) x all p (suc k) y e = all_pushed (λ i. P (suc i)) zs x (λ i w f. all (suc i) w f) p k y e
