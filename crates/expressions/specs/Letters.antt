-- The case of letters is not significant in the names of the scope (2.1.2).
use Rattle.std.proofs.Common.{◌≡◌, ℕ, List, [], ◌∷◌, Bool, true, false, ◌&&◌, T, eqb, refl, ap, sym, subst}
use Rattle.std.specs.Char.{to_ascii_uppercase}
use Rattle.std.proofs.lemmas.Bool.{eqb-true}
use Rattle.sfc_base.specs.Case.{same_word}
use Rattle.sfc_check.specs.Scopes.{IgnoresCase}
use Rattle.expressions.specs.Names.{letter_of, variable_of, step_of, names}

never : {A : Type 0} → false ≡ true → A
never p = absurd (subst T (sym p) tt)

left_is : (a b : Bool) → a && b ≡ true → a ≡ true
left_is true b p = refl
left_is false b p = never p

not_both : {A : Type 0} (a : Bool) → a && false ≡ true → A
not_both true p = never p
not_both false p = never p

one_letter : (b c : ℕ) → eqb (to_ascii_uppercase b) (to_ascii_uppercase c) ≡ true → to_ascii_uppercase b ≡ to_ascii_uppercase c
one_letter b c p = eqb-true (to_ascii_uppercase b) (to_ascii_uppercase c) p

-- words that are one but for case are the same letter, or both none
same_letter : (v w : List ℕ) → same_word v w ≡ true → letter_of v ≡ letter_of w
unfolding same_word
same_letter [] [] p = refl
same_letter [] (c ∷ w) p = never p
same_letter (b ∷ []) [] p = never p
same_letter (b ∷ []) (c ∷ []) p = one_letter b c (left_is (eqb (to_ascii_uppercase b) (to_ascii_uppercase c)) true p)
same_letter (b ∷ []) (c ∷ d ∷ w) p = not_both (eqb (to_ascii_uppercase b) (to_ascii_uppercase c)) p
same_letter (b ∷ e ∷ v) [] p = never p
same_letter (b ∷ e ∷ v) (c ∷ []) p = not_both (eqb (to_ascii_uppercase b) (to_ascii_uppercase c)) p
same_letter (b ∷ e ∷ v) (c ∷ d ∷ w) p = refl

pub ignoring_case : IgnoresCase names
ignoring_case = record {
  variable = λ one other same. ap variable_of (same_letter one other same);
  step = λ one other same. ap step_of (same_letter one other same);
  is_own_action = λ one other same. ap (λ n. eqb n 65) (same_letter one other same);
}
