-- Lists that have one element for each place.
use Rattle.std.proofs.Common.{◌≡◌, ℕ, zero, suc, ◌+◌, ◌<◌, arith, ◌∷◌, refl, sym, ◌∙◌, ap}
use Rattle.std.specs.Prelude.{map, get_or}
use Rattle.std.specs.List.{range_with_len}
use Rattle.std.proofs.lemmas.List.FromFn.{get_or-map-range_with_len}

-- where two such lists are one, so are their elements
pub at_place : {A : Type 0} (f g : ℕ → A) (n k : ℕ) (d : A) → k < n → map f (range_with_len 0 n) ≡ map g (range_with_len 0 n) → f k ≡ g k
at_place f g n k d lt e =
    let here : 0 + k ≡ k = omega arith in
    sym (get_or-map-range_with_len f 0 n k k d lt here) ∙ ap (λ xs. get_or xs k d) e ∙ get_or-map-range_with_len g 0 n k k d lt here

mapped_from : {A : Type 0} (f g : ℕ → A) (a n : ℕ) → ((k : ℕ) → k < n → f (a + k) ≡ g (a + k))
    → map f (range_with_len a n) ≡ map g (range_with_len a n)
mapped_from f g a zero each = refl
mapped_from f g a (suc n) each =
    let here : a + 0 ≡ a = omega arith in
    let first : f a ≡ g a = sym (ap f here) ∙ each 0 (omega arith) ∙ ap g here in
    let rest : map f (range_with_len (a + 1) n) ≡ map g (range_with_len (a + 1) n) =
    mapped_from f g (a + 1) n
    (λ k lt. let s : a + suc k ≡ a + 1 + k = omega arith in sym (ap f s) ∙ each (suc k) (omega arith) ∙ ap g s) in
    (λ i. first i ∷ rest i)

-- and where the elements are the same, so are the lists
pub mapped : {A : Type 0} (f g : ℕ → A) (n : ℕ) → ((k : ℕ) → k < n → f k ≡ g k) → map f (range_with_len 0 n) ≡ map g (range_with_len 0 n)
mapped f g n each = mapped_from f g 0 n (λ k lt. let e : 0 + k ≡ k = omega arith in ap f e ∙ each k lt ∙ sym (ap g e))
