-- Blocks of variables, and intervals.
use Rattle.std.proofs.Common.{◌≡◌, ℕ, suc, ℤ, pos, ◌==◌, false, List, [], ◌∷◌, ◌++◌, length, flat_map, codes, refl, ap, arith}
use Rattle.std.proofs.lemmas.Grind.{common_steps}
use Rattle.sfc_base.specs.TimeText.{time_text}
use Rattle.sfc_list.specs.Layout.{line, block}
use Rattle.sfc_list.specs.Listing.{interval_text}

pub no_block : {A : Type 0} (level : ℕ) (first : List ℕ) (text : A → List ℕ) (xs : List A) → length xs ≡ 0 → block level first text xs ≡ []
no_block level first text [] e = refl
no_block level first text (x ∷ xs) e = absurd (omega arith)

pub some_block : {A : Type 0} (level : ℕ) (first : List ℕ) (text : A → List ℕ) (xs : List A) → false ≡ (length xs == 0)
    → block level first text xs ≡ line level first ++ flat_map (λ y. line (suc level) (text y)) xs ++ line level (codes "END_VAR")
some_block level first text [] e = cc
some_block level first text (x ∷ xs) e = refl

pub no_interval : (t : ℤ) → t ≡ pos 0 → interval_text t ≡ []
no_interval t e = ap interval_text e

pub some_interval : (t : ℤ) → (t ≡ pos 0 → ⊥) → interval_text t ≡ codes "INTERVAL := " ++ time_text t ++ codes ", "
some_interval t ne = grind (arith, common_steps)
