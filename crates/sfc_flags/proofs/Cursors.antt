-- The steps of a walk over the set places of a table.
use Rattle.std.proofs.Common.{◌≡◌, ℕ, ◌+◌, ◌*◌, ◌/◌, ◌%◌, ◌<◌, ◌≤◌, ◌==◌, ◌&&◌, not, Bool, true, false, List, [], ◌∷◌, length, ◌∙◌, ap, refl, sym, inl, inr, arith, eq-eqb}
use mathlib.Core.Logic.{◌⊎◌}
use Rattle.std.proofs.lemmas.Bool.{cases_eq, cases_lt, ne_eqb}
use Rattle.std.proofs.lemmas.List.{get_or_past}
use Rattle.std.specs.Int.{bit_at}
use Rattle.sfc_flags.specs.declared.word.Word.{Word}
use Rattle.sfc_flags.specs.Cursors.{StandsAt}
use Rattle.sfc_flags.specs.Flags.{flag, places_from}
use Rattle.sfc_flags.specs.Words.{has, word_count, word_of}
use Rattle.sfc_flags.proofs.Nexts.{next_place, no_place}

clash : {A : Type 0} {b : Bool} → b ≡ true → b ≡ false → A
clash on off = absurd (let no : true ≡ false = sym on ∙ off in cc)

on_or_off : (b : Bool) → (b ≡ true) ⊎ (b ≡ false)
on_or_off true = inl refl
on_or_off false = inr refl

below_set : (flags : List Bool) (i : ℕ) → flag flags i ≡ true → i < length flags
below_set flags i on = elim (cases_lt i (length flags)) [
  | inl lt ↦ lt
  | inr ge ↦ clash on (get_or_past flags i false ge)
]

-- this word has the flags of the table
abbrev pub ShowsWord : List Bool → ℕ → Word → Type 0
ShowsWord flags k w = (place : ℕ) → word_of place ≡ k → has w place ≡ flag flags place

-- the place within the word alone counts
same_within : (w : Word) (p q : ℕ) → p % 64 ≡ q % 64 → has w p ≡ has w q
unfolding has
same_within w p q e = ap (λ k. bit_at w.0 k == 1) e

-- the first place of a word, and the flags behind it
module _ (w rest : Word) (place : ℕ) (none : (j : ℕ) → j < place → has w j ≡ false)
    (without : (p : ℕ) → has rest p ≡ (has w p && not (p % 64 == place))) where
  not_sooner : (p : ℕ) → has w p ≡ true → place ≤ p % 64
  not_sooner p on = elim (cases_lt (p % 64) place) [
    | inl lt ↦ clash on (same_within w p (p % 64) (omega arith) ∙ none (p % 64) lt)
    | inr ge ↦ ge
  ]

  left_later : (p : ℕ) → has w p ≡ true → place < p % 64 → has rest p ≡ true
  left_later p on lt = without p ∙ ap (λ b. has w p && not b) (ne_eqb (p % 64) place (λ e. omega (arith, e))) ∙ and_true (has w p) ∙ on
    where
      and_true : (b : Bool) → (b && true) ≡ b
      and_true true = refl
      and_true false = refl

  not_left : (p : ℕ) → p % 64 ≡ place → has rest p ≡ false
  not_left p e = without p ∙ ap (λ b. has w p && not b) (eq-eqb (p % 64) place e) ∙ and_false (has w p)
    where
      and_false : (b : Bool) → (b && false) ≡ false
      and_false true = refl
      and_false false = refl

  is_later : (p : ℕ) → has rest p ≡ true → (has w p ≡ true) × (place < p % 64)
  is_later p on =
      let there = first (has w p) (not (p % 64 == place)) (sym (without p) ∙ on) in (
        there,
        elim (cases_eq (p % 64) place) [
          | inl e ↦ clash on (not_left p e)
          | inr d ↦ (let le = not_sooner p there in omega arith)
        ],
      )
    where
      first : (a b : Bool) → (a && b) ≡ true → a ≡ true
      first true b e = refl
      first false b e = e

-- a walk begins with the first word
pub begins : (flags : List Bool) (w : Word) → ShowsWord flags 0 w → StandsAt flags 0 (record { base = 0; rest = w })
begins flags w shows = record {
  aligned = refl;
  rest = λ p own on. (omega arith, sym (shows p (omega (arith, own))) ∙ on);
  behind = omega arith;
  all = λ p le is_set. elim (cases_eq (word_of p) 0) [
    | inl own ↦ inl (omega (arith, own), shows p own ∙ is_set)
    | inr other ↦ inr (omega (arith, other))
  ];
}

-- of a table without places
pub begins_empty : (flags : List Bool) (w : Word) → word_count flags ≡ 0 → ((p : ℕ) → has w p ≡ false) → StandsAt flags 0 (record { base = 0; rest = w })
begins_empty flags w empty blank = record {
  aligned = refl;
  rest = λ p own on. clash on (blank p);
  behind = omega arith;
  all = λ p le is_set. absurd (omega (arith, empty, below_set flags p is_set));
}

module _ (flags : List Bool) (from base : ℕ) (w : Word) (at : StandsAt flags from (record { base = base; rest = w })) where
  -- the next place is the first of the rest of the word
  module _ (place : ℕ) (rest : Word) (small : place < 64) (on : has w place ≡ true) (none : (j : ℕ) → j < place → has w j ≡ false)
      (without : (p : ℕ) → has rest p ≡ (has w p && not (p % 64 == place))) where
    in_rest : has w (base + place) ≡ true
    in_rest = same_within w (base + place) place (omega (arith, at.aligned)) ∙ on

    here : (from ≤ base + place) × (flag flags (base + place) ≡ true)
    here = at.rest (base + place) (omega (arith, at.aligned)) in_rest

    before : (j : ℕ) → from ≤ j → j < base + place → flag flags j ≡ false
    before j le less = elim (on_or_off (flag flags j)) [
      | inl is_set ↦ elim (at.all j le is_set) [
        | inl own ↦ absurd (omega (arith, own.0, not_sooner w rest place none without j own.1))
        | inr later ↦ absurd (omega (arith, later))
      ]
      | inr off ↦ off
    ]

    stands : StandsAt flags (base + place + 1) (record { base = base; rest = rest })
    stands = record {
      aligned = at.aligned;
      rest = λ p own left. (let is_left = is_later w rest place none without p left in
          (omega (arith, own, at.aligned, is_left.1), (at.rest p own is_left.0).1));
      behind = omega arith;
      all = λ p le is_set. elim (at.all p (omega (arith, here.0)) is_set) [
        | inl own ↦ inl (own.0, left_later w rest place none without p own.1 (omega (arith, own.0, at.aligned)))
        | inr later ↦ inr later
      ];
    }

    pub next_in_word : (base + place < length flags) × (flag flags (base + place) ≡ true)
        × (places_from flags from ≡ (base + place) ∷ places_from flags (base + place + 1))
        × StandsAt flags (base + place + 1) (record { base = base; rest = rest })
    next_in_word =
        let lt = below_set flags (base + place) here.1 in
        (lt, here.1, next_place flags from (base + place) here.0 lt here.1 before, stands)

  -- nothing is left of the word
  module _ (blank : (p : ℕ) → has w p ≡ false) where
    pub at_end : length flags ≤ base + 64 → places_from flags from ≡ []
    at_end last = no_place flags from (λ p le. elim (on_or_off (flag flags p)) [
      | inl is_set ↦ elim (at.all p le is_set) [
        | inl own ↦ clash own.1 (blank p)
        | inr later ↦ absurd (omega (arith, last, later, below_set flags p is_set))
      ]
      | inr off ↦ off
    ])

    pub next_word : (next : Word) → ShowsWord flags ((base + 64) / 64) next → StandsAt flags from (record { base = base + 64; rest = next })
    next_word next shows = record {
      aligned = omega (arith, at.aligned);
      rest = λ p own on. (omega (arith, own, at.behind), sym (shows p (omega (arith, own, at.aligned))) ∙ on);
      behind = omega (arith, at.behind);
      all = λ p le is_set. elim (at.all p le is_set) [
        | inl own ↦ clash own.1 (blank p)
        | inr later ↦ elim (cases_eq (word_of p * 64) (base + 64)) [
          | inl same ↦ inl (same, shows p (omega (arith, same)) ∙ is_set)
          | inr other ↦ inr (omega (arith, later, other, at.aligned))
        ]
      ];
    }
