-- The loop over the numbers of a location.
use Rattle.std.proofs.Common.{◌≡◌, ℕ, suc, List, [], ◌∷◌, ◌++◌, length, Option, Some, None, refl, sym, ap, ◌∙◌, arith, append_assoc}
use Rattle.sfc_tokens.specs.Lexing.Integers.{◌>>=◌}
use Rattle.sfc_tokens.specs.Lexing.Locations.{numbers, number_at, pointed, with_front}

one_turn : (left k n : ℕ) (rest behind : List ℕ) → left ≡ suc k → number_at rest ≡ Some (n, behind) → numbers left rest ≡ pointed n behind (numbers k)
unfolding numbers
one_turn left k n rest behind e is = rw (e, is) refl

regroup : (front : List ℕ) (n : ℕ) (read : Option (List ℕ)) → with_front front (read >>= λ ns. Some (n ∷ ns)) ≡ with_front (front ++ n ∷ []) read
regroup front n None = refl
regroup front n (Some ns) = ap (λ (ms : List ℕ). Some ms) (simp append_assoc)

pub ends : (front : List ℕ) (left k n : ℕ) (rest behind : List ℕ) (total : Option (List ℕ)) → left ≡ suc k → number_at rest ≡ Some (n, behind) → length behind ≡ 0 → with_front front (numbers left rest) ≡ total → total ≡ Some (front ++ n ∷ [])
ends front left k n rest [] total e is none so_far = sym so_far ∙ ap (with_front front) (one_turn left k n rest [] e is)
ends front left k n rest (b ∷ bs) total e is none so_far = absurd (omega (arith, none))

pub goes_on : (front : List ℕ) (left k n b : ℕ) (rest behind further : List ℕ) (total : Option (List ℕ)) → left ≡ suc k → number_at rest ≡ Some (n, behind) → behind ≡ b ∷ further → b ≡ 46 → with_front front (numbers left rest) ≡ total → with_front (front ++ n ∷ []) (numbers k further) ≡ total
goes_on front left k n b rest behind further total e is head point so_far =
    let all : behind ≡ 46 ∷ further = rw (← point) head in
    sym (regroup front n (numbers k further)) ∙ sym (ap (λ (bs : List ℕ). with_front front (pointed n bs (numbers k))) all) ∙ sym (ap (with_front front) (one_turn left k n rest behind e is)) ∙ so_far
