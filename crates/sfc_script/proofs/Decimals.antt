-- The text of a number, read as a number.
use Rattle.std.proofs.Common.{◌≡◌, ℕ, suc, ◌+◌, ◌-◌, ◌*◌, ◌/◌, ◌%◌, ◌<◌, ◌≤◌, ◌^◌, ◌==◌, nat_le, ◌&&◌, if◌then◌else◌, true, false, List, [], ◌∷◌, ◌++◌, Some, None, option_map, ℤ, pos, negsuc, neg_ℤ, unsigned_abs, decimal, refl, sym, ap, ◌∙◌, arith}
use Rattle.std.specs.Fmt.{signed_decimal}
use Rattle.std.proofs.lemmas.Bool.Decides.{nat_tests}
use Rattle.std.proofs.lemmas.Fmt.{decimal_by_steps}
use Rattle.std.proofs.lemmas.List.{append_assoc}
use Rattle.sfc_script.specs.Values.{digits_from, decimal_of, number_of}

is_digit : (b : ℕ) → 48 ≤ b → b ≤ 57 → (nat_le 48 b && nat_le b 57) ≡ true
is_digit b low high = grind (arith, nat_tests)

-- a digit behind a number, and what follows
one_digit : (n b m : ℕ) (tail : List ℕ) → 48 ≤ b → b ≤ 57 → n * 10 + (b - 48) ≡ m → digits_from n (b ∷ tail) ≡ digits_from m tail
one_digit n b m tail low high e =
    ap (λ t. if t then digits_from (n * 10 + (b - 48)) tail else None) (is_digit b low high) ∙ ap (λ k. digits_from k tail) e

-- these digits make m, and the first of them is a digit
record Makes (m : ℕ) (ds : List ℕ) : Type 0 where
  value : (tail : List ℕ) → digits_from 0 (ds ++ tail) ≡ digits_from m tail
  first : ℕ
  others : List ℕ
  split : ds ≡ first ∷ others
  low : 48 ≤ first

one_makes : (m : ℕ) → m < 10 → Makes m ((48 + m) ∷ [])
one_makes m lt = record {
  value = λ tail. one_digit 0 (48 + m) m tail (omega arith) (omega (arith, lt)) (omega arith);
  first = 48 + m;
  others = [];
  split = refl;
  low = omega arith;
}

more_makes : (m : ℕ) (ds : List ℕ) → 10 ≤ m → Makes (m / 10) ds → Makes m (ds ++ (48 + m % 10) ∷ [])
more_makes m ds le h = record {
  value = λ tail.
      ap (digits_from 0) (append_assoc ds ((48 + m % 10) ∷ []) tail) ∙ h.value ((48 + m % 10) ∷ tail)
      ∙ one_digit (m / 10) (48 + m % 10) m tail (omega arith) (omega arith) (omega arith);
  first = h.first;
  others = h.others ++ (48 + m % 10) ∷ [];
  split = ap (λ xs. xs ++ (48 + m % 10) ∷ []) h.split;
  low = h.low;
}

makes : (n : ℕ) → n < 2 ^ 64 → Makes n (decimal n)
makes n small = decimal_by_steps Makes one_makes more_makes n small

append-none : (xs : List ℕ) → xs ++ [] ≡ xs
append-none [] = refl
append-none (x ∷ xs) = ap (λ ys. x ∷ ys) (append-none xs)

read_of : (m : ℕ) (ds : List ℕ) → Makes m ds → decimal_of ds ≡ Some m
read_of m [] h = absurd (nothing h.split)
  where
    nothing : {b : ℕ} {xs : List ℕ} → [] ≡ b ∷ xs → ⊥
    nothing e = cc
read_of m (d ∷ ds) h = sym (ap (digits_from 0) (append-none (d ∷ ds))) ∙ h.value []

not_minus : (b : ℕ) → 48 ≤ b → (b == 45) ≡ false
not_minus b low = grind (arith, nat_tests)

plain_read : (m : ℕ) (ds : List ℕ) → Makes m ds → number_of ds ≡ Some (pos m)
plain_read m [] h = absurd (nothing h.split)
  where
    nothing : {b : ℕ} {xs : List ℕ} → [] ≡ b ∷ xs → ⊥
    nothing e = cc
plain_read m (d ∷ ds) h =
    let same : d ≡ h.first = head d h.first ds h.others h.split in
    ap (λ t. if t then option_map (λ n. neg_ℤ (pos n)) (decimal_of ds) else option_map pos (decimal_of (d ∷ ds)))
    (not_minus d (omega (arith, same, h.low)))
    ∙ ap (option_map pos) (read_of m (d ∷ ds) h)
  where
    head : (x y : ℕ) (xs ys : List ℕ) → x ∷ xs ≡ y ∷ ys → x ≡ y
    head x y xs ys e = cc

pub number_read : (z : ℤ) → unsigned_abs z < 2 ^ 64 → number_of (signed_decimal z) ≡ Some z
number_read (pos n) small = plain_read n (decimal n) (makes n small)
number_read (negsuc n) small = ap (option_map (λ k. neg_ℤ (pos k))) (read_of (suc n) (decimal (suc n)) (makes (suc n) small))
