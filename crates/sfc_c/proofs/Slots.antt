-- What is kept by numbers: one is put in the place of another, or behind all.
use Rattle.std.proofs.Common.{◌≡◌, refl, ap, subst, arith, ℕ, zero, suc, ◌<◌, List, [], ◌∷◌, ◌++◌, length, Some}
use Rattle.std.specs.List.{All, slice_get, slice_set}
use Rattle.std.proofs.lemmas.List.Elements.{All-append, All-get_or, All-set}
use Rattle.std.proofs.lemmas.Option.{get_or_from_slice_get, slice_get_within}

pub set_here : {X : Type 0} (xs : List X) (n : ℕ) (x : X) → n < length xs → slice_get (slice_set xs n x) n ≡ Some x
set_here [] n x less = grind arith
set_here (y ∷ ys) zero x less = refl
set_here (y ∷ ys) (suc n) x less = set_here ys n x (omega arith)

pub set_other : {X : Type 0} (xs : List X) (n k : ℕ) (x : X) → (k ≡ n → ⊥) → slice_get (slice_set xs n x) k ≡ slice_get xs k
set_other [] n k x other = refl
set_other (y ∷ ys) zero zero x other = absurd (other refl)
set_other (y ∷ ys) zero (suc k) x other = refl
set_other (y ∷ ys) (suc n) zero x other = refl
set_other (y ∷ ys) (suc n) (suc k) x other = set_other ys n k x (λ (e : k ≡ n). other (ap suc e))

pub push_here : {X : Type 0} (xs : List X) (n : ℕ) (x : X) → n ≡ length xs → slice_get (xs ++ x ∷ []) n ≡ Some x
push_here [] zero x e = refl
push_here [] (suc n) x e = grind arith
push_here (y ∷ ys) zero x e = grind arith
push_here (y ∷ ys) (suc n) x e = push_here ys n x (omega arith)

pub push_other : {X : Type 0} (xs : List X) (n k : ℕ) (x : X) → n ≡ length xs → (k ≡ n → ⊥)
    → slice_get (xs ++ x ∷ []) k ≡ slice_get xs k
push_other [] zero zero x e other = absurd (other refl)
push_other [] (suc n) zero x e other = grind arith
push_other [] n (suc k) x e other = refl
push_other (y ∷ ys) n zero x e other = refl
push_other (y ∷ ys) zero (suc k) x e other = grind arith
push_other (y ∷ ys) (suc n) (suc k) x e other = push_other ys n k x (omega arith) (λ (same : k ≡ n). other (ap suc same))

pub one_of : {X : Type 0} (P : X → Type 0) (xs : List X) (n : ℕ) (x : X) → All P xs → slice_get xs n ≡ Some x → P x
one_of P xs n x all e = subst P (get_or_from_slice_get xs n x x e) (All-get_or P xs n x (slice_get_within xs n x e) all)

pub all_push : {X : Type 0} (P : X → Type 0) (xs : List X) (x : X) → All P xs → P x → All P (xs ++ x ∷ [])
all_push P xs x all one = All-append P xs (x ∷ []) all (only one)
  where
    only : P x → All P (x ∷ [])
    only one zero d less = one
    only one (suc k) d less = grind arith

pub all_put : {X : Type 0} (P : X → Type 0) (xs : List X) (n : ℕ) (x : X) → All P xs → P x → All P (slice_set xs n x)
all_put P xs n x all one = All-set P xs n x one all
