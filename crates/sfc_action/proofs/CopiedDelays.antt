-- What copies of the live on-delays leave.
use Rattle.std.proofs.Common.{◌≡◌, ℕ, ◌<◌, ◌||◌, zero, suc, Bool, true, false, List, [], ◌∷◌, length, get_or}
use Rattle.std.proofs.Common.{refl, ◌⊎◌, arith, inl, inr}
use Rattle.std.specs.Prelude.{map}
use Rattle.std.proofs.lemmas.List.{ext_get_or}
use Rattle.sfc_action.specs.declared.blocks.Block.{Block}
use Rattle.sfc_action.specs.Private.Keeping.{delay_of}

pub same_blocks : (xs ys : List Block) → length xs ≡ length ys
    → ((k : ℕ) (d : Block) → k < length xs → get_or xs k d ≡ get_or ys k d) → xs ≡ ys
same_blocks [] [] long each = refl
same_blocks [] (y ∷ ys) long each = absurd (omega (arith, long))
same_blocks (x ∷ xs) ys long each = ext_get_or x (x ∷ xs) ys long (λ k lt. each k x lt)

-- the same on-delays, one by one
pub same_delay : (xs ys : List Block) → map delay_of xs ≡ map delay_of ys → (k : ℕ) (d : Block)
    → delay_of (get_or xs k d) ≡ delay_of (get_or ys k d)
same_delay [] [] e k d = refl
same_delay [] (y ∷ ys) e k d = absurd cc
same_delay (x ∷ xs) [] e k d = absurd cc
same_delay (x ∷ xs) (y ∷ ys) e zero d = cc
same_delay (x ∷ xs) (y ∷ ys) e (suc k) d = let rest : map delay_of xs ≡ map delay_of ys = cc in same_delay xs ys rest k d

-- two flags are off, or one of them is on
pub either_flag : (a b : Bool) → ((a ≡ false) × (b ≡ false)) ⊎ ((a || b) ≡ true)
either_flag true b = inr refl
either_flag false true = inr refl
either_flag false false = inl (refl, refl)
