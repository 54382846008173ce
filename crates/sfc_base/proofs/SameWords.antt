-- Whether two words are one but for case is an equivalence, and is decided by their capitals.
use Rattle.std.proofs.Common.{◌≡◌, ℕ, Bool, true, false, ◌&&◌, eqb, nat_eq, List, [], ◌∷◌, length, suc, refl, sym, ap, subst, IsTrue}
use Rattle.std.proofs.lemmas.Bool.{eqb-true}
use Rattle.std.specs.Char.{to_ascii_uppercase}
use Rattle.std.specs.Str.{str_to_ascii_uppercase}
use Rattle.std.specs.Ordering.{on}
use Rattle.std.specs.Hash as fed
use Rattle.std.specs.Cmp.{IsPartialEquivalence, IsEquivalence, partial_equiv_from_equiv, on_equiv}
use Rattle.std.specs.Cmp.Lexicographic.{pointwise, nat_list_eq_equiv}
use Rattle.sfc_base.specs.Case.{same_word}

pub by_capitals : (v w : List ℕ) → same_word v w ≡ pointwise nat_eq (str_to_ascii_uppercase v) (str_to_ascii_uppercase w)
unfolding same_word
by_capitals [] [] = refl
by_capitals [] (c ∷ w) = refl
by_capitals (b ∷ v) [] = refl
by_capitals (b ∷ v) (c ∷ w) = ap (λ t. eqb (to_ascii_uppercase b) (to_ascii_uppercase c) && t) (by_capitals v w)

capitals_decide : on str_to_ascii_uppercase (pointwise nat_eq) ≡ same_word
capitals_decide = λ i v w. sym (by_capitals v w) i

pub same_word_equiv : IsEquivalence same_word
same_word_equiv = subst (λ (e : List ℕ → List ℕ → Bool). IsEquivalence e) capitals_decide (on_equiv str_to_ascii_uppercase nat_list_eq_equiv)

pub same_word_partial_equiv : IsPartialEquivalence same_word
same_word_partial_equiv = partial_equiv_from_equiv same_word_equiv

heads : (t : Bool) (b c : ℕ) (v w : List ℕ) → eqb b c ≡ t → t && same_word v w ≡ true → (b ≡ c) × (same_word v w ≡ true)
heads true b c v w h e = (eqb-true b c h, e)
heads false b c v w h e = absurd cc

same_capitals : (v w : List ℕ) → same_word v w ≡ true → str_to_ascii_uppercase v ≡ str_to_ascii_uppercase w
unfolding same_word
same_capitals [] [] e = refl
same_capitals [] (c ∷ w) e = absurd cc
same_capitals (b ∷ v) [] e = absurd cc
same_capitals (b ∷ v) (c ∷ w) e =
    let h = heads (eqb (to_ascii_uppercase b) (to_ascii_uppercase c)) (to_ascii_uppercase b) (to_ascii_uppercase c) v w refl e in
    let t = same_capitals v w h.1 in
    λ i. h.0 i ∷ t i

-- what a hash of the capitals is fed
pub same_word_input : (v w : List ℕ) → IsTrue (same_word v w) → fed.slice fed.u8 (str_to_ascii_uppercase v) ≡ fed.slice fed.u8 (str_to_ascii_uppercase w)
same_word_input v w e = ap (fed.slice fed.u8) (same_capitals v w e)

-- words of different length are not one
pub as_long : (v w : List ℕ) → (length v ≡ length w → ⊥) → same_word v w ≡ false
unfolding same_word
as_long [] [] h = absurd (h refl)
as_long [] (c ∷ w) h = refl
as_long (b ∷ v) [] h = refl
as_long (b ∷ v) (c ∷ w) h = by_head (eqb (to_ascii_uppercase b) (to_ascii_uppercase c)) (as_long v w (λ e. h (ap suc e)))
  where
    by_head : (t : Bool) → same_word v w ≡ false → t && same_word v w ≡ false
    by_head true e = e
    by_head false e = refl
