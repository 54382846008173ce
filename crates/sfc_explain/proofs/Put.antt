-- Writes one after the other.
use Rattle.std.proofs.Common.{◌≡◌, ℕ, List, ◌∷◌, Option, Result, Err, sym, subst}
use Rattle.sfc_base.specs.Writing.{AppendsFront, Writes}
use Rattle.sfc_explain.specs.declared.explanation.Explanation.{Explanation}
use Rattle.sfc_explain.specs.Pages.{row, rows}
pub use Rattle.sfc_base.proofs.Written.{then_writes, front_first}

-- a front of the first row is one of all rows
first_heading : (old new : Option (List ℕ)) (explanation : Explanation) (explanations all : List Explanation) → all ≡ explanation ∷ explanations
    → AppendsFront old new (row explanation) → AppendsFront old new (rows all)
unfolding rows
first_heading old new explanation explanations all e h =
    subst (λ es. AppendsFront old new (rows es)) (sym e) (front_first old new (row explanation) (rows explanations) h)

-- where the first row met a fault, so did all rows
pub fault_first : {X Y E : Type 0} (old new : Option (List ℕ)) (explanation : Explanation) (explanations all : List Explanation) → all ≡ explanation ∷ explanations
    → (r : Result X E) (s : Result Y E) (a b : E) → r ≡ Err a → s ≡ Err b → Writes old new r (row explanation) → Writes old new s (rows all)
fault_first {X = X} {Y = Y} {E = E} old new explanation explanations all e r s a b p q h =
    subst (λ (x : Result Y E). Writes old new x (rows all)) (sym q)
    (first_heading old new explanation explanations all e (subst (λ (x : Result X E). Writes old new x (row explanation)) p h))
