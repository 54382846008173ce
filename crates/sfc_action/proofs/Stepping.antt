-- The active steps, word by word.
use Rattle.std.proofs.Common.{◌≡◌, ℕ, zero, suc, ◌+◌, ◌-◌, ◌*◌, ◌%◌, ◌<◌, ◌≤◌, ◌==◌, ◌&&◌, not, Bool, true, false, List, [], ◌∷◌, length, drop}
use Rattle.std.proofs.Common.{refl, sym, ap, ◌∙◌, arith, inl, inr, eq-eqb}
use Rattle.std.proofs.lemmas.Bool.{cases_eq, cases_lt, ne_eqb}
use Rattle.std.proofs.lemmas.List.{get_or-drop, drop-drop, drop_all}
use Rattle.sfc_flags.specs.declared.word.Word.{Word}
use Rattle.sfc_flags.specs.Flags.{flag, set_from, places_from}
use Rattle.sfc_flags.specs.Words.{has, word_of}
use Rattle.sfc_flags.proofs.Wordwise.{past}
use Rattle.sfc_evolve.proofs.Copied.{has_same}

-- behind places that aren't set come the same ones
skip_set : (s n : ℕ) (flags : List Bool) → ((m : ℕ) → m < n → flag flags m ≡ false) → set_from s flags ≡ set_from (s + n) (drop n flags)
skip_set s zero flags off = let same : s + 0 ≡ s = omega arith in ap (λ k. set_from k flags) (sym same)
skip_set s (suc n) [] off = refl
skip_set s (suc n) (true ∷ flags) off = absurd (let bad : true ≡ false = off 0 (omega arith) in cc)
skip_set s (suc n) (false ∷ flags) off =
    let same : suc s + n ≡ s + suc n = omega arith in
    skip_set (suc s) n flags (λ m lt. off (suc m) (omega (arith, lt))) ∙ ap (λ k. set_from k (drop n flags)) same

skip : (flags : List Bool) (at to : ℕ) → at ≤ to → ((j : ℕ) → at ≤ j → j < to → flag flags j ≡ false)
    → places_from flags at ≡ places_from flags to
skip flags at to le off =
    let n : ℕ = to - at in
    let same : at + n ≡ to = omega arith in
    skip_set at n (drop at flags) (λ m lt. get_or-drop at flags m false ∙ off (at + m) (omega arith) (omega (arith, lt)))
    ∙ ap (set_from (at + n)) (drop-drop n at flags)
    ∙ ap (places_from flags) same

first_set : (s p : ℕ) (flags : List Bool) → flag flags p ≡ true → set_from s (drop p flags) ≡ s ∷ set_from (suc s) (drop (suc p) flags)
first_set s p [] e = absurd (let bad : false ≡ true = e in cc)
first_set s zero (true ∷ flags) e = refl
first_set s zero (false ∷ flags) e = absurd (let bad : false ≡ true = e in cc)
first_set s (suc p) (b ∷ flags) e = first_set s p flags e

-- what is left of a word of flags, from place k of the word on
pub record AreLeft (flags : List Bool) (number k : ℕ) (w : Word) : Type 0 where
  pub within : k ≤ 64
  pub left : (j : ℕ) → k ≤ j → j < 64 → has w j ≡ flag flags (number * 64 + j)
  pub behind : (j : ℕ) → j < k → has w j ≡ false

-- all are
pub whole_left : (flags : List Bool) (number : ℕ) (w : Word) → ((place : ℕ) → word_of place ≡ number → has w place ≡ flag flags place)
    → AreLeft flags number 0 w
whole_left flags number w is = record {
  within = omega arith;
  left = λ j le lt. has_same w j (number * 64 + j) (omega (arith, lt)) ∙ is (number * 64 + j) (omega (arith, lt));
  behind = λ j lt. absurd (omega (arith, lt));
}

-- none is left
pub none_left : (flags : List Bool) (number k : ℕ) (w : Word) → AreLeft flags number k w → ((j : ℕ) → has w j ≡ false)
    → places_from flags (number * 64 + k) ≡ places_from flags ((number + 1) * 64)
none_left flags number k w are none =
    skip flags (number * 64 + k) ((number + 1) * 64) (omega (arith, are.within)) (λ a ge lt.
    let j : ℕ = a - number * 64 in
    let at : number * 64 + j ≡ a = omega (arith, ge) in
    ap (flag flags) (sym at) ∙ sym (are.left j (omega (arith, ge)) (omega (arith, lt, ge))) ∙ none j)

pub flag_below : (flags : List Bool) (s : ℕ) → flag flags s ≡ true → s < length flags
flag_below flags s on = elim (cases_lt s (length flags)) [
  | inl lt ↦ lt
  | inr le ↦ absurd (let bad : true ≡ false = sym on ∙ past (length flags) s flags refl le in cc)
]

-- the first one that is left
module _ (flags : List Bool) (number k place : ℕ) (w rest : Word) (are : AreLeft flags number k w) (lt : place < 64)
    (here : has w place ≡ true) (less : (j : ℕ) → has rest j ≡ (has w j && not (j % 64 == place)))
    (first : (j : ℕ) → j < place → has w j ≡ false) where
  pub is_left : k ≤ place
  is_left = elim (cases_lt place k) [
    | inl behind ↦ absurd (let no = are.behind place behind in cc)
    | inr le ↦ le
  ]

  pub is_set : flag flags (number * 64 + place) ≡ true
  is_set = sym (are.left place is_left lt) ∙ here

  pub next_left : places_from flags (number * 64 + k) ≡ (number * 64 + place) ∷ places_from flags (number * 64 + (place + 1))
  next_left =
      let from = is_left in
      let p : ℕ = number * 64 + place in
      let next : suc p ≡ number * 64 + (place + 1) = omega arith in
      skip flags (number * 64 + k) p (omega (arith, from)) (λ a ge before.
      let j : ℕ = a - number * 64 in
      let at : number * 64 + j ≡ a = omega (arith, ge) in
      ap (flag flags) (sym at) ∙ sym (are.left j (omega (arith, ge)) (omega (arith, before, ge, lt))) ∙ first j (omega (arith, before, ge)))
      ∙ first_set p p flags is_set
      ∙ ap (λ n. p ∷ places_from flags n) next

  other : (j : ℕ) → j < 64 → (j ≡ place → ⊥) → has rest j ≡ has w j
  other j jlt ne =
      let self : j % 64 ≡ j = omega arith in
      less j ∙ rw (self, ne_eqb j place ne) (kept (has w j))
    where
      kept : (b : Bool) → (b && true) ≡ b
      kept true = refl
      kept false = refl

  gone : has rest place ≡ false
  gone =
      let self : place % 64 ≡ place = omega arith in
      less place ∙ rw (self, eq-eqb place place refl) (none (has w place))
    where
      none : (b : Bool) → (b && false) ≡ false
      none true = refl
      none false = refl

  -- is left no more
  pub left_after : AreLeft flags number (place + 1) rest
  left_after = record {
    within = omega (arith, lt);
    left = λ j le jlt. other j jlt (λ e. omega (arith, e, le)) ∙ are.left j (let from = is_left in omega (arith, from, le)) jlt;
    behind = λ j jlt. elim (cases_eq j place) [
      | inl e ↦ rw e gone
      | inr ne ↦ other j (omega (arith, jlt, lt)) ne ∙ first j (omega (arith, jlt, ne))
    ];
  }

-- behind all words there are none
pub all_past : (flags : List Bool) (at : ℕ) → length flags ≤ at → places_from flags at ≡ []
all_past flags at le = let none : drop at flags ≡ [] = drop_all at flags le in ap (set_from at) none
