-- Tables of words, each of which has the rows of 64 actions.
use Rattle.std.proofs.Common.{◌≡◌, ℕ, suc, zero, ◌≤◌, ◌<◌, ◌==◌, Bool, false, cond, List, [], ◌∷◌, length, get_or, arith, ◌∙◌, ap, refl, sym, inl, inr, eq-eqb}
use Rattle.std.specs.Prelude.{All, map, slice_set, replicate}
use Rattle.std.specs.Int.{div_ceil}
use Rattle.std.proofs.lemmas.Bool.{cases_eq, cases_lt, ne_eqb}
use Rattle.std.proofs.lemmas.List.{get_or-map, get_or-set_same, get_or-set_other, get_or_past, length-set, length-map, length-replicate, get_or-replicate}
use Rattle.std.proofs.lemmas.List.FromFn.{get_or-map-range_with_len, length-map-range_with_len}
use Rattle.sfc_flags.specs.Flags.{flag}
use Rattle.sfc_flags.specs.Words.{word_of}
use Rattle.sfc_flags.proofs.Wordwise.{past}
use Rattle.sfc_action.specs.Private.RowTables.{row_at, IsTable, set_of}

-- ---- sets by flags

pub set_length : (n : ℕ) (f : ℕ → Bool) → length (set_of n f) ≡ n
set_length n f = length-map-range_with_len f 0 n

pub set_flag : (n : ℕ) (f : ℕ → Bool) → ((a : ℕ) → n ≤ a → f a ≡ false) → (a : ℕ) → flag (set_of n f) a ≡ f a
set_flag n f blank a = elim (cases_lt a n) [
  | inl lt ↦ get_or-map-range_with_len f 0 n a a false lt (omega arith)
  | inr ge ↦ past n a (set_of n f) (set_length n f) ge ∙ sym (blank a ge)
]

-- ---- rows

module _ {W R : Type 0} (row : W → ℕ → R) (none : R) where
  pub row_here : (words : List W) (k a : ℕ) (d : W) → word_of a ≡ k → k < length words → row_at row none words a ≡ row (get_or words k d) a
  row_here words k a d e lt = rw e (get_or-map (λ word. row word a) words k d none lt)

  row_apart : (words : List W) (k a : ℕ) (w : W) → (word_of a ≡ k → ⊥) → row_at row none (slice_set words k w) a ≡ row_at row none words a
  row_apart words k a w apart = elim (cases_lt (word_of a) (length words)) [
    | inl lt ↦ (
        let size = length-set words k w in
        row_here (slice_set words k w) (word_of a) a w refl (omega (arith, size, lt))
        ∙ ap (λ word. row word a) (get_or-set_other words k (word_of a) w w apart)
        ∙ sym (row_here words (word_of a) a w refl lt))
    | inr ge ↦ (
        let size = length-set words k w in
        let own = length-map words (λ word. row word a) in
        let new = length-map (slice_set words k w) (λ word. row word a) in
        get_or_past (map (λ word. row word a) (slice_set words k w)) (word_of a) none (omega (arith, size, new, ge))
        ∙ sym (get_or_past (map (λ word. row word a) words) (word_of a) none (omega (arith, own, ge))))
  ]

  -- a word in place of another
  pub row_set : (words : List W) (k a : ℕ) (w : W) → k < length words
      → row_at row none (slice_set words k w) a ≡ cond (word_of a == k) (row w a) (row_at row none words a)
  row_set words k a w lt = elim (cases_eq (word_of a) k) [
    | inl e ↦ (
        let size = length-set words k w in
        rw (eq-eqb (word_of a) k e) (row_here (slice_set words k w) k a w e (omega (arith, size, lt))
        ∙ ap (λ word. row word a) (get_or-set_same words k w w lt)))
    | inr d ↦ rw (ne_eqb (word_of a) k d) (row_apart words k a w d)
  ]

  none_at : (words : List W) → All (λ (word : W). (a : ℕ) → row word a ≡ none) words → (a k : ℕ) → k < length words
      → get_or (map (λ word. row word a) words) k none ≡ none
  none_at [] all a k lt = absurd (omega arith)
  none_at (w ∷ words) all a zero lt = all 0 w (omega arith) a
  none_at (w ∷ words) all a (suc k) lt = none_at words (λ j d less. all (suc j) d (omega arith)) a k (omega arith)

  -- words without a flag
  pub row_none : (words : List W) → All (λ (word : W). (a : ℕ) → row word a ≡ none) words → (a : ℕ) → row_at row none words a ≡ none
  row_none words all a = elim (cases_lt (word_of a) (length words)) [
    | inl lt ↦ none_at words all a (word_of a) lt
    | inr ge ↦ (let own = length-map words (λ word. row word a) in
        get_or_past (map (λ word. row word a) words) (word_of a) none (omega (arith, own, ge)))
  ]

  -- ---- tables

  pub table_none : (n : ℕ) (words : List W) → length words ≡ div_ceil n 64 → All (λ (word : W). (a : ℕ) → row word a ≡ none) words → IsTable row none n words
  table_none n words size all = record { sized = size; blank = λ a le. row_none words all a }

  pub all_equal : (n : ℕ) (word : W) (words : List W) → ((a : ℕ) → row word a ≡ none) → words ≡ replicate (div_ceil n 64) word
      → (length words ≡ div_ceil n 64) × All (λ (w : W). (a : ℕ) → row w a ≡ none) words
  all_equal n word words clear e =
      let size : length words ≡ div_ceil n 64 = ap length e ∙ length-replicate (div_ceil n 64) word in (
        size,
        λ k d lt a.
            ap (λ (ws : List W). row (get_or ws k d) a) e
            ∙ ap (λ (w : W). row w a) (get_or-replicate (div_ceil n 64) k word d (omega (arith, size, lt))) ∙ clear a,
      )

  pub table_put : (n : ℕ) (words : List W) (k : ℕ) (w : W) → IsTable row none n words → k < length words
      → ((a : ℕ) → word_of a ≡ k → n ≤ a → row w a ≡ none) → IsTable row none n (slice_set words k w)
  table_put n words k w t lt past = record {
    sized = length-set words k w ∙ t.sized;
    blank = λ a le. row_set words k a w lt ∙ elim (cases_eq (word_of a) k) [
      | inl e ↦ rw (eq-eqb (word_of a) k e) (past a e le)
      | inr d ↦ rw (ne_eqb (word_of a) k d) (t.blank a le)
    ];
  }
