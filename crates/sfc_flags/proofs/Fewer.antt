-- How many places have a flag.
use Rattle.std.proofs.Common.{◌≡◌, ℕ, zero, suc, ◌+◌, ◌<◌, ◌≤◌, ◌==◌, ◌&&◌, not, Bool, true, false, cond, ap, refl, ◌∙◌, sym, inl, inr, arith, eq-eqb}
use Rattle.std.proofs.lemmas.Bool.{cases_eq}

abbrev one : Bool → ℕ
one b = cond b 1 0

-- how many of the first n places have a flag
pub set_count : (ℕ → Bool) → ℕ → ℕ
set_count f zero = 0
set_count f (suc n) = one (f n) + set_count f n

one_less : (a b : Bool) → one (a && b) ≤ one a
one_less true true = omega arith
one_less true false = omega arith
one_less false b = omega arith

no_more : (f g : ℕ → Bool) (n p : ℕ) → ((q : ℕ) → q < n → g q ≡ (f q && not (q == p))) → set_count g n ≤ set_count f n
unfolding set_count
no_more f g zero p others = omega arith
no_more f g (suc n) p others =
    let here : one (g n) ≤ one (f n) = rw (others n (omega arith)) (one_less (f n) (not (n == p))) in
    let rest = no_more f g n p (λ q lt. others q (omega arith)) in
    omega (arith, here, rest)

-- without one there are fewer
pub fewer : (f g : ℕ → Bool) (n p : ℕ) → p < n → f p ≡ true → ((q : ℕ) → q < n → g q ≡ (f q && not (q == p)))
    → set_count g n < set_count f n
unfolding set_count
fewer f g zero p lt on others = absurd (omega arith)
fewer f g (suc n) p lt on others = elim (cases_eq p n) [
  | inl e ↦ (
      let more : one (f n) ≡ 1 = ap (λ k. one (f k)) (sym e) ∙ ap one on in
      let gone : g n ≡ false = others n (omega arith) ∙ ap (λ b. f n && not b) (eq-eqb n p (sym e)) ∙ and_false (f n) in
      let none : one (g n) ≡ 0 = ap one gone in
      omega (arith, more, none, no_more f g n p (λ q below. others q (omega arith))))
  | inr d ↦ (
      let here : one (g n) ≤ one (f n) = rw (others n (omega arith)) (one_less (f n) (not (n == p))) in
      omega (arith, here, fewer f g n p (omega arith) on (λ q below. others q (omega arith))))
]
  where
    and_false : (b : Bool) → (b && false) ≡ false
    and_false true = refl
    and_false false = refl
