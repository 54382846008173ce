-- Texts put at the end, one after the other.
use Rattle.std.proofs.Common.{◌≡◌, ◌≤◌, ◌+◌, ℕ, List, ◌++◌, length, take, ap, sym, ◌∙◌, append_assoc}
use Rattle.std.proofs.lemmas.List.{length-append, length-take-le}

pub two_appended : (old x y a b : List ℕ) → x ≡ old ++ a → y ≡ x ++ b → y ≡ old ++ (a ++ b)
two_appended old x y a b e f = f ∙ ap (λ (z : List ℕ). z ++ b) e ∙ append_assoc old a b

-- how many bytes stand when a text was put
pub all_counted : (old new text : List ℕ) (count all : ℕ) → count ≤ length old → all ≤ length new → take all new ≡ take count old ++ text
    → all ≡ count + length text
all_counted old new text count all within fits e =
    sym (length-take-le all new fits) ∙ ap length e ∙ length-append (take count old) text
    ∙ ap (λ (n : ℕ). n + length text) (length-take-le count old within)
