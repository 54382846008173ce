-- The places of a word at which two tables differ, from the first one on.
use Rattle.std.proofs.Common.{◌≡◌, ℕ, zero, suc, ◌+◌, ◌-◌, ◌*◌, ◌%◌, ◌<◌, ◌≤◌, ◌==◌, ◌&&◌, not, Bool, true, false, cond, List, length, arith, refl, sym, ap, ◌∙◌, inl, inr, eq-eqb}
use Rattle.std.proofs.lemmas.Bool.{cases_eq, cases_lt, ne_eqb}
use Rattle.std.proofs.lemmas.List.{get_or_past}
use Rattle.std.specs.Int.{bit_at}
use Rattle.sfc_flags.specs.Flags.{flag}
use Rattle.sfc_flags.specs.Words.{has, word_of}
use Rattle.sfc_flags.specs.declared.word.Word.{Word}

-- the place within the word alone counts
pub has_within : (w : Word) (number j : ℕ) → j < 64 → has w (number * 64 + j) ≡ has w j
unfolding has
has_within w number j lt =
    let same : (number * 64 + j) % 64 ≡ j % 64 = omega arith in
    ap (λ (k : ℕ). bit_at w.0 k == 1) same

-- how many of the first n places have their flag
unfoldable pub set_below : Word → ℕ → ℕ
set_below w zero = 0
set_below w (suc n) = cond (has w n) (suc (set_below w n)) (set_below w n)

-- the flags of a word that tells where two tables differ, from place k of the word on; before it none is left
pub record AreLeft (number k : ℕ) (given q : ℕ → Bool) (differing : Word) : Type 0 where
  pub within : k ≤ 64
  pub left : (j : ℕ) → k ≤ j → j < 64 → has differing j ≡ cond (q (number * 64 + j)) (not (given (number * 64 + j))) (given (number * 64 + j))
  pub behind : (j : ℕ) → j < k → has differing j ≡ false

-- a place without its flag is one at which they are the same
same_flag : (x y : Bool) → cond y (not x) x ≡ false → x ≡ y
same_flag true true e = refl
same_flag true false e = e
same_flag false true e = sym e
same_flag false false e = refl

module _ (w rest : Word) (place : ℕ) (lt : place < 64) (here : has w place ≡ true)
    (less : (j : ℕ) → has rest j ≡ (has w j && not (j % 64 == place))) where
  other : (j : ℕ) → j < 64 → (j ≡ place → ⊥) → has rest j ≡ has w j
  other j jlt ne =
      let self : j % 64 ≡ j = omega arith in
      less j ∙ rw (self, ne_eqb j place ne) (kept (has w j))
    where
      kept : (b : Bool) → (b && true) ≡ b
      kept true = refl
      kept false = refl

  gone : has rest place ≡ false
  gone =
      let self : place % 64 ≡ place = omega arith in
      less place ∙ rw (self, eq-eqb place place refl) (none (has w place))
    where
      none : (b : Bool) → (b && false) ≡ false
      none true = refl
      none false = refl

  -- no place more than before
  fewer_below : (n : ℕ) → n ≤ place → set_below rest n ≡ set_below w n
  unfolding set_below
  fewer_below zero le = refl
  fewer_below (suc n) le =
      let same = other n (omega arith) (λ e. omega arith) in
      let before = fewer_below n (omega arith) in
      rw (same, before) refl

  -- one place fewer
  pub fewer : (n : ℕ) → place < n → n ≤ 64 → suc (set_below rest n) ≡ set_below w n
  unfolding set_below
  fewer zero within le = absurd (omega arith)
  fewer (suc n) within le = elim (cases_eq n place) [
    | inl e ↦ rw (e, gone, here, fewer_below place (omega arith)) refl
    | inr ne ↦
        let same = other n (omega arith) ne in
        let before = fewer n (omega arith) (omega arith) in
        one_more (has rest n) (has w n) same before
  ]
    where
      one_more : (x y : Bool) → x ≡ y → suc (set_below rest n) ≡ set_below w n
          → suc (cond x (suc (set_below rest n)) (set_below rest n)) ≡ cond y (suc (set_below w n)) (set_below w n)
      one_more true true e before = ap suc before
      one_more false false e before = before
      one_more true false e before = absurd cc
      one_more false true e before = absurd cc

  module _ (number k : ℕ) (given q : ℕ → Bool) (are : AreLeft number k given q w) where
    -- the first place that has its flag isn't behind
    pub place_is_left : k ≤ place
    place_is_left = elim (cases_lt place k) [
      | inl behind ↦ absurd (let no = are.behind place behind in cc)
      | inr le ↦ le
    ]

    -- and is left no more
    pub left_after : ((j : ℕ) → j < place → has w j ≡ false) → AreLeft number (place + 1) given q rest
    left_after first = record {
      within = omega arith;
      left = λ j le jlt. other j jlt (λ e. omega arith) ∙ are.left j (let from = place_is_left in omega (arith, from, le)) jlt;
      behind = λ j jlt. elim (cases_eq j place) [
        | inl e ↦ rw e gone
        | inr ne ↦ other j (omega arith) ne ∙ first j (omega arith)
      ];
    }

-- from there on to the first place they are the same
pub same_before : (number k to : ℕ) (given q : ℕ → Bool) (w : Word) → AreLeft number k given q w → to ≤ 64
    → ((j : ℕ) → j < to → has w j ≡ false) → (a : ℕ) → number * 64 + k ≤ a → a < number * 64 + to → given a ≡ q a
same_before number k to given q w are le none a ge lt =
    let j : ℕ = a - number * 64 in
    let at : number * 64 + j ≡ a = omega arith in
    same_flag (given a) (q a)
    (ap (λ (b : ℕ). cond (q b) (not (given b)) (given b)) (sym at)
    ∙ sym (are.left j (omega arith) (omega arith)) ∙ none j (omega arith))

-- before the first place
pub all_left : (number : ℕ) (given q : ℕ → Bool) (its mine differing : Word) → ((a : ℕ) → word_of a ≡ number → has its a ≡ given a)
    → ((a : ℕ) → word_of a ≡ number → has mine a ≡ q a)
    → ((a : ℕ) → has differing a ≡ cond (has mine a) (not (has its a)) (has its a)) → AreLeft number 0 given q differing
all_left number given q its mine differing its_are mine_are apart = record {
  within = omega arith;
  left = λ j le lt.
      let a : ℕ = number * 64 + j in
      let here : word_of a ≡ number = omega arith in
      sym (has_within differing number j lt) ∙ apart a ∙ rw (its_are a here, mine_are a here) refl;
  behind = λ j lt. absurd (omega (arith, lt));
}

-- where no place differs they are the same
pub same_word : (number : ℕ) (given q : ℕ → Bool) (its mine differing : Word) → ((a : ℕ) → word_of a ≡ number → has its a ≡ given a)
    → ((a : ℕ) → word_of a ≡ number → has mine a ≡ q a)
    → ((a : ℕ) → has differing a ≡ cond (has mine a) (not (has its a)) (has its a)) → ((a : ℕ) → has differing a ≡ false)
    → (a : ℕ) → word_of a ≡ number → given a ≡ q a
same_word number given q its mine differing its_are mine_are apart none a here =
    sym (its_are a here) ∙ same_flag (has its a) (has mine a) (sym (apart a) ∙ none a) ∙ mine_are a here

-- a place at which they differ is one of the tables'
pub place_in_table : (given q : List Bool) (number k place : ℕ) (w : Word) → length given ≡ length q → AreLeft number k (flag given) (flag q) w
    → k ≤ place → place < 64 → has w place ≡ true → number * 64 + place < length q
place_in_table given q number k place w sized are le lt here = elim (cases_lt (number * 64 + place) (length q)) [
  | inl within ↦ within
  | inr past ↦
      let a : ℕ = number * 64 + place in
      let none : flag q a ≡ false = get_or_past q a false past in
      let none_given : flag given a ≡ false = get_or_past given a false (omega (arith, past, sized)) in
      let same : has w place ≡ false = are.left place le lt ∙ rw (none, none_given) refl in
      absurd cc
]
