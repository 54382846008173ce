-- Tests that are gone through one after the other.
use Rattle.std.proofs.Common.{◌≡◌, ◌∙◌, refl, ap, ◌+◌, ℕ, zero, suc, Bool, true, ◌&&◌}
use Rattle.std.specs.List.{list_all, range_with_len}

-- all of them are so
pub all_so : (f : ℕ → Bool) → ((k : ℕ) → f k ≡ true) → (a n : ℕ) → list_all f (range_with_len a n) ≡ true
all_so f so a zero = refl
all_so f so a (suc n) = ap (λ t. t && list_all f (range_with_len (a + 1) n)) (so a) ∙ all_so f so (a + 1) n
