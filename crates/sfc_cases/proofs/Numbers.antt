-- Numbers that are gone through one after the other.
use Rattle.std.proofs.Common.{◌≡◌, ◌<◌, ◌+◌, ◌-◌, ap, ℕ, suc, arith, ◌∷◌}
use Rattle.std.specs.List.{range_with_len}

pub unrolled : (k n : ℕ) → k < n → range_with_len k (n - k) ≡ k ∷ range_with_len (k + 1) (n - (k + 1))
unrolled k n less =
    let e : n - k ≡ suc (n - (k + 1)) = omega arith in
    ap (range_with_len k) e
