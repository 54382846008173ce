-- The line of a program instance that a fault has ended, piece by piece.
use Rattle.std.proofs.Common.{◌≡◌, ◌++◌, List, ℕ, ◌∙◌, ap, append_assoc}

-- eight pieces behind a text
regrouped : (old a b c d e f g h : List ℕ)
    → old ++ a ++ b ++ c ++ d ++ e ++ f ++ g ++ h ≡ old ++ (a ++ b ++ c ++ d ++ e ++ f ++ g ++ h)
regrouped old a b c d e f g h = simp append_assoc

-- they stand, one after the other
pub pieces_appended : (old s t u v w x y z a b c d e f g h : List ℕ) → s ≡ old ++ a → t ≡ s ++ b → u ≡ t ++ c → v ≡ u ++ d → w ≡ v ++ e
    → x ≡ w ++ f → y ≡ x ++ g → z ≡ y ++ h → z ≡ old ++ (a ++ b ++ c ++ d ++ e ++ f ++ g ++ h)
pieces_appended old s t u v w x y z a b c d e f g h one two three four five six seven eight =
    eight ∙ ap (λ (i : List ℕ). i ++ h) (seven ∙ ap (λ (i : List ℕ). i ++ g) (six ∙ ap (λ (i : List ℕ). i ++ f)
    (five ∙ ap (λ (i : List ℕ). i ++ e) (four ∙ ap (λ (i : List ℕ). i ++ d) (three ∙ ap (λ (i : List ℕ). i ++ c)
    (two ∙ ap (λ (i : List ℕ). i ++ b) one))))))
    ∙ regrouped old a b c d e f g h
