-- Steps that are gone through by their numbers.
use Rattle.std.proofs.Common.{◌≡◌, ◌∙◌, ◌<◌, ◌+◌, ◌-◌, ap, ℕ, suc, arith, Bool, true, false, ◌&&◌, ◌∷◌}
use Rattle.std.specs.List.{list_all, range_with_len}

pub unrolled : (k n : ℕ) → k < n → range_with_len k (n - k) ≡ k ∷ range_with_len (k + 1) (n - (k + 1))
unrolled k n less =
    let e : n - k ≡ suc (n - (k + 1)) = omega arith in
    ap (range_with_len k) e

module _ (f : ℕ → Bool) (k n : ℕ) (less : k < n) where
  -- one that isn't so
  pub none_of : f k ≡ false → list_all f (range_with_len k (n - k)) ≡ false
  none_of e = ap (list_all f) (unrolled k n less) ∙ ap (λ t. t && list_all f (range_with_len (k + 1) (n - (k + 1)))) e

  -- one that is
  pub all_but : f k ≡ true → list_all f (range_with_len k (n - k)) ≡ list_all f (range_with_len (k + 1) (n - (k + 1)))
  all_but e = ap (list_all f) (unrolled k n less) ∙ ap (λ t. t && list_all f (range_with_len (k + 1) (n - (k + 1)))) e
