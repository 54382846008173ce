-- Flags that are known at each place are known as a list.
use Rattle.std.proofs.Common.{◌≡◌, ℕ, zero, suc, ◌+◌, ◌<◌, Bool, List, [], ◌∷◌, length, arith, refl, ◌∙◌, ap}
use Rattle.std.specs.Prelude.{map}
use Rattle.std.specs.List.{range_with_len}
use Rattle.sfc_flags.specs.Flags.{flag}

listed_from : (f : ℕ → Bool) (a n : ℕ) (flags : List Bool) → length flags ≡ n → ((k : ℕ) → k < n → flag flags k ≡ f (a + k))
    → flags ≡ map f (range_with_len a n)
listed_from f a zero [] long each = refl
listed_from f a (suc n) [] long each = absurd (omega arith)
listed_from f a zero (b ∷ flags) long each = absurd (omega arith)
listed_from f a (suc n) (b ∷ flags) long each =
    let e : a + 0 ≡ a = omega arith in
    let first : b ≡ f a = each 0 (omega arith) ∙ ap f e in
    let rest : flags ≡ map f (range_with_len (a + 1) n) =
    listed_from f (a + 1) n flags (omega arith)
    (λ k lt. let s : a + suc k ≡ a + 1 + k = omega arith in each (suc k) (omega arith) ∙ ap f s) in
    (λ i. first i ∷ rest i)

-- flags of n places are the list of what they are at each place
pub listed : (f : ℕ → Bool) (n : ℕ) (flags : List Bool) → length flags ≡ n → ((k : ℕ) → k < n → flag flags k ≡ f k)
    → flags ≡ map f (range_with_len 0 n)
listed f n flags long each =
    listed_from f 0 n flags long (λ k lt. let e : k ≡ 0 + k = omega arith in each k lt ∙ ap f e)
