-- When two tables have the same bits, and when they show the same flags.
use Rattle.std.proofs.Common.{subst, ◌≡◌, ℕ, ◌+◌, ◌*◌, ◌/◌, ◌%◌, ◌^◌, ◌<◌, ◌≤◌, ◌==◌, ◌↔◌, Bool, true, false, not, cond, List, length, get_or, ◌∙◌, ap, refl, sym, inl, inr, arith, eq-eqb}
use Rattle.std.proofs.lemmas.Bool.{cases_eq, cases_lt, ne_eqb}
use Rattle.std.proofs.lemmas.List.{get_or_past}
use Rattle.std.proofs.lemmas.Nat.{le_or_l, le_or_r}
use Rattle.std.specs.Prelude.{bit_or, bit_xor}
use Rattle.std.specs.Int.{bit_at}
use lib.Bits.{or_zero_l, xor_assoc, xor_lt, xor_self, xor_zero_l, xor_zero_r}
use Rattle.sfc_flags.specs.Private.Bits.{bit, flags_of, IsTable}
use Rattle.sfc_flags.proofs.Apart.{xor_bit}
use Rattle.sfc_flags.proofs.Has.{all_none}
use Rattle.sfc_flags.specs.Flags.{flag}
use Rattle.sfc_flags.proofs.Views.{flag_of, length_of, same_flags, shown}

-- what differs in no bit is the same
xor_none : (x y : ℕ) → bit_xor x y ≡ 0 → x ≡ y
xor_none x y none =
    sym (xor_zero_r x) ∙ ap (bit_xor x) (sym (xor_self y)) ∙ sym (xor_assoc x y y) ∙ ap (λ z. bit_xor z y) none ∙ xor_zero_l y

not_apart : (b : Bool) → cond b (not b) b ≡ false
not_apart false = refl
not_apart true = refl

-- so is a word of which each bit is the same
same_word : (x y : ℕ) → x < 2 ^ 64 → y < 2 ^ 64 → ((i : ℕ) → (bit_at x (i % 64) == 1) ≡ (bit_at y (i % 64) == 1)) → x ≡ y
same_word x y fits other_fits each =
    xor_none x y (all_none (bit_xor x y) (xor_lt 64 x y fits other_fits) (λ i. xor_bit x y (i % 64)
    ∙ ap (λ b. cond b (not (bit_at y (i % 64) == 1)) (bit_at y (i % 64) == 1)) (each i) ∙ not_apart (bit_at y (i % 64) == 1)))

-- the words before number k are the same
abbrev pub AreSame : List ℕ → List ℕ → ℕ → Type 0
AreSame words other k = (j : ℕ) → j < k → get_or words j 0 ≡ get_or other j 0

pub test_same : (x y : ℕ) → x < 2 ^ 64 → y < 2 ^ 64 → ((x == y) ≡ true) ↔ ((i : ℕ) → (bit_at x (i % 64) == 1) ≡ (bit_at y (i % 64) == 1))
test_same x y fits other_fits = elim (cases_eq x y) [
  | inl e ↦ (λ yes i. ap (λ n. bit_at n (i % 64) == 1) e, λ each. eq-eqb x y e)
  | inr d ↦ (
    λ yes. absurd (let no : (x == y) ≡ false = ne_eqb x y d in cc),
    λ each. absurd (d (same_word x y fits other_fits each)),
  )
]

module _ (words other : List ℕ) (apart k : ℕ) (so_far : (apart ≡ 0) ↔ AreSame words other k) where
  with_next : bit_or apart (bit_xor (get_or words k 0) (get_or other k 0)) ≡ 0 → AreSame words other (k + 1)
  with_next none j lt = elim (cases_eq j k) [
    | inl e ↦ rw e (xor_none (get_or words k 0) (get_or other k 0)
        (omega (arith, none, le_or_r apart (bit_xor (get_or words k 0) (get_or other k 0)))))
    | inr d ↦ so_far.0 (omega (arith, none, le_or_l apart (bit_xor (get_or words k 0) (get_or other k 0)))) j (omega arith)
  ]

  without_next : AreSame words other (k + 1) → bit_or apart (bit_xor (get_or words k 0) (get_or other k 0)) ≡ 0
  without_next same =
      let zero : apart ≡ 0 = so_far.1 (λ j lt. same j (omega arith)) in
      let next : get_or words k 0 ≡ get_or other k 0 = same k (omega arith) in
      rw (zero, or_zero_l, next) (xor_self (get_or other k 0))

  -- one word more is compared
  pub one_more : (bit_or apart (bit_xor (get_or words k 0) (get_or other k 0)) ≡ 0) ↔ AreSame words other (k + 1)
  one_more = (with_next, without_next)

module _ (words other : List ℕ) (len : length other ≡ length words) (fits : (i : ℕ) → get_or words i 0 < 2 ^ 64)
    (other_fits : (i : ℕ) → get_or other i 0 < 2 ^ 64) where
  past : (k : ℕ) → length words ≤ k → get_or words k 0 ≡ get_or other k 0
  past k le = get_or_past words k 0 le ∙ sym (get_or_past other k 0 (omega arith))

  same_bits : AreSame words other (length words) → (j : ℕ) → bit words j ≡ bit other j
  unfolding bit
  same_bits same j =
      let e : get_or words (j / 64) 0 ≡ get_or other (j / 64) 0 = elim (cases_lt (j / 64) (length words)) [
        | inl lt ↦ same (j / 64) lt
        | inr ge ↦ past (j / 64) ge
      ] in
      rw e refl

  same_words : ((j : ℕ) → bit words j ≡ bit other j) → (k : ℕ) → get_or words k 0 ≡ get_or other k 0
  unfolding bit
  same_words each k = same_word (get_or words k 0) (get_or other k 0) (fits k) (other_fits k) (λ i.
      let here : (k * 64 + i % 64) / 64 ≡ k = omega arith in
      let there : (k * 64 + i % 64) % 64 ≡ i % 64 = omega arith in
      subst (λ n. (bit_at (get_or words n 0) (i % 64) == 1) ≡ (bit_at (get_or other n 0) (i % 64) == 1)) here
      (subst (λ n. (bit_at (get_or words ((k * 64 + i % 64) / 64) 0) n == 1) ≡ (bit_at (get_or other ((k * 64 + i % 64) / 64) 0) n == 1)) there
      (each (k * 64 + i % 64))))

  -- all words were compared
  pub all_compared : (apart : ℕ) → ((apart ≡ 0) ↔ AreSame words other (length words))
      → ((apart == 0) ≡ true) ↔ ((j : ℕ) → bit words j ≡ bit other j)
  all_compared apart so_far = elim (cases_eq apart 0) [
    | inl e ↦ (λ yes. same_bits (so_far.0 e), λ each. eq-eqb apart 0 e)
    | inr d ↦ (
      λ yes. absurd (let no : (apart == 0) ≡ false = ne_eqb apart 0 d in cc),
      λ each. absurd (d (so_far.1 (λ j lt. same_words each j))),
    )
  ]

  -- the one word was compared
  pub one_compared : length words ≡ 1 → ((get_or words 0 0 == get_or other 0 0) ≡ true) ↔ ((j : ℕ) → bit words j ≡ bit other j)
  one_compared one = elim (cases_eq (get_or words 0 0) (get_or other 0 0)) [
    | inl e ↦ (λ yes. same_bits (λ j lt. let zero : j ≡ 0 = omega arith in rw zero e), λ each. eq-eqb (get_or words 0 0) (get_or other 0 0) e)
    | inr d ↦ (
      λ yes. absurd (let no : (get_or words 0 0 == get_or other 0 0) ≡ false = ne_eqb (get_or words 0 0) (get_or other 0 0) d in cc),
      λ each. absurd (d (same_words each 0)),
    )
  ]

-- two tables of one size, by the words at hand
module _ (n m : ℕ) (words other at at_other : List ℕ) (flags others : List Bool) (t : IsTable n words) (u : IsTable m other)
    (e : at ≡ words) (f : at_other ≡ other) (v : flags_of n words ≡ flags) (w : flags_of m other ≡ others) (l : n ≡ m) where
  pub same_length : length at_other ≡ length at
  same_length = omega (arith, t.sized, u.sized, ap length e, ap length f)

  pub same_tables : (((j : ℕ) → bit at j ≡ bit at_other j) → flags ≡ others) × (flags ≡ others → (j : ℕ) → bit at j ≡ bit at_other j)
  same_tables =
      let to : ((j : ℕ) → bit at j ≡ bit at_other j) → flags ≡ others =
      λ each. sym v ∙ same_flags n words (flags_of m other) t (length_of m other ∙ sym l)
      (λ j lt. ap (λ x. bit x j) (sym e) ∙ each j ∙ ap (λ x. bit x j) f ∙ sym (flag_of m other u j)) ∙ w in
      let from : flags ≡ others → (j : ℕ) → bit at j ≡ bit at_other j =
      λ same j. sym (shown n words at flags t e v j) ∙ ap (λ x. flag x j) same ∙ shown m other at_other others u f w j in
      (to, from)
