-- The first item of a list without a property.
use Rattle.std.proofs.Common.{◌≡◌, ℕ, ◌+◌, ◌<◌, List, refl, subst, length, get_or, below_more}
use Rattle.std.proofs.lemmas.List.{get_or_read}
use Rattle.std.proofs.lemmas.Option.{slice_get_read}
use Rattle.sfc_control.specs.Closing.{AllBefore, IsFirstNot}

module _ {T : Type 0} (P : T → Type 0) (xs : List T) (i : ℕ) (x : T) where
  pub before_more : AllBefore P xs i → i < length xs → x ≡ get_or xs i x → P x → AllBefore P xs (i + 1)
  before_more before lt is p =
      let at : (d : T) → P (get_or xs i d) = λ d. subst P (get_or_read xs i x lt is d) p in
      λ j d low. below_more (λ k. (d : T) → P (get_or xs k d)) i (λ k l d. before k d l) at j low d

  pub first_not : AllBefore P xs i → i < length xs → x ≡ get_or xs i x → (P x → ⊥) → IsFirstNot P xs i x
  first_not before lt is wrong = (before, slice_get_read xs (length xs) i x refl lt is, wrong)
