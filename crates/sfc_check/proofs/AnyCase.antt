-- The case of letters in names.
use Rattle.std.proofs.Common.{◌≡◌, ◌&&◌, ◌==◌, ℕ, List, [], ◌∷◌, Bool, true, false, Option, Some, None, refl, ap, ◌∙◌}
use Rattle.std.specs.Prelude.{codes}
use Rattle.std.specs.Char.{to_ascii_uppercase}
use Rattle.sfc_base.specs.Case.{same_word}
use Rattle.sfc_check.specs.Scopes.{Names, IgnoresCase, SamePart, found, of_variable, part_of}
use borrow.Author.Tests.{eqb-true}

-- letters alike, and words alike behind them
both : (t u : Bool) (b c : ℕ) → (b == c) ≡ t → t && u ≡ true → (b ≡ c) × (u ≡ true)
both true u b c e h = (eqb-true b c e, h)
both false u b c e h = cc

same_words : (v w x : List ℕ) → same_word v w ≡ true → same_word v x ≡ same_word w x
unfolding same_word
same_words [] [] x h = refl
same_words [] (c ∷ w) x h = cc
same_words (b ∷ v) [] x h = cc
same_words (b ∷ v) (c ∷ w) [] h = refl
same_words (b ∷ v) (c ∷ w) (d ∷ x) h =
    let p = both (to_ascii_uppercase b == to_ascii_uppercase c) (same_word v w) (to_ascii_uppercase b) (to_ascii_uppercase c) refl h in
    ap (λ n. n == to_ascii_uppercase d && same_word v x) p.0 ∙ ap (λ r. to_ascii_uppercase c == to_ascii_uppercase d && r) (same_words v w x p.1)

module _ (names : Names) (ignores : IgnoresCase names) (one other : List ℕ) (same : same_word one other ≡ true) where
  part_same : (p q : List ℕ) → same_word p q ≡ true → part_of names one p ≡ part_of names other q
  part_same p q h =
      let x : same_word p (codes "X") ≡ same_word q (codes "X") = same_words p q (codes "X") h in
      let t : same_word p (codes "T") ≡ same_word q (codes "T") = same_words p q (codes "T") h in
      let own : same_word p (codes "Q") ≡ same_word q (codes "Q") = same_words p q (codes "Q") h in
      rw (x, t, own, ignores.step one other same, ignores.is_own_action one other same) refl

  pub found_same : (p q : Option (List ℕ)) → SamePart p q → found names one p ≡ found names other q
  found_same None None h = ap of_variable (ignores.variable one other same)
  found_same (Some p) (Some q) h = part_same p q h
  found_same None (Some q) h = absurd h
  found_same (Some p) None h = absurd h
