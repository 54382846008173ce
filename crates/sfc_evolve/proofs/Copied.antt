-- What copies of the times of listed places leave.
use Rattle.std.proofs.Common.{◌≡◌, inl, inr, ℕ, ◌+◌, ◌*◌, ◌%◌, ◌<◌, ◌≤◌, ◌==◌, ◌||◌, ◌&&◌, not, Bool, true, false, cond, List, length}
use Rattle.std.proofs.Common.{refl, sym, ap, ◌∙◌, arith, ℤ, pos}
use Rattle.std.specs.Prelude.{slice_set}
use Rattle.std.specs.Int.{div_ceil}
use Rattle.std.proofs.lemmas.Bool.{cases_lt, ne_eqb}
use Rattle.std.proofs.lemmas.Bool.Decides.{nat_tests}
use Rattle.std.proofs.lemmas.List.{ext_get_or}
use Rattle.sfc_flags.specs.declared.word.Word.{Word}
use Rattle.sfc_flags.specs.Flags.{flag}
use Rattle.sfc_flags.specs.Words.{has, word_of, ArePut, AreDone}
use Rattle.sfc_flags.proofs.Wordwise.{past, more_by}
use Rattle.sfc_evolve.specs.Private.Keeping.{number}
use Rattle.sfc_evolve.proofs.Flagged.{one_put}
use Rattle.sfc_evolve.proofs.Looks.{bool_cases}
use Rattle.sfc_evolve.proofs.Next.{and_left}

-- the place within the word alone counts
pub has_same : (word : Word) (a b : ℕ) → a % 64 ≡ b % 64 → has word a ≡ has word b
unfolding has
has_same word a b e = rw e refl

-- the first place of a word is one of its places
pub reached : (word p n : ℕ) (left moved : Word) → p < 64 → has left p ≡ true → ((s : ℕ) → has left s ≡ true → has moved s ≡ true)
    → ((s : ℕ) → word_of s ≡ word → has moved s ≡ true → s < n) → word * 64 + p < n
reached word p n left moved small on flags places =
    let s : ℕ = word * 64 + p in
    places s (omega arith) (flags s (has_same left s p (omega arith) ∙ on))

-- the times with those of the flags of this word taken over
abbrev pub taken : ℕ → Word → List ℤ → List ℤ → ℕ → ℤ
taken word left from times s = cond (word_of s == word) (cond (has left s) (number from s) (number times s)) (number times s)

one_test : (x y : ℕ) → x ≡ y → (x == y) ≡ true
one_test x y e = grind (arith, nat_tests)

and_true : (b : Bool) → (b && true) ≡ b
and_true true = refl
and_true false = refl

-- what is left of a word's flags the word had
pub keeps : (left rest : Word) (p : ℕ) → ((q : ℕ) → has rest q ≡ (has left q && not (q % 64 == p))) → (s : ℕ) → has rest s ≡ true
    → has left s ≡ true
keeps left rest p others s on = and_left (has left s) (not (s % 64 == p)) (sym (others s) ∙ on)

-- one place more is taken over
pub take_one : (word p place : ℕ) (left rest : Word) (from times : List ℤ) (v : ℤ) → p < 64 → place ≡ word * 64 + p → place < length times
    → has left p ≡ true → ((q : ℕ) → has rest q ≡ (has left q && not (q % 64 == p))) → v ≡ number from place
    → (s : ℕ) → taken word rest from (slice_set times place v) s ≡ taken word left from times s
take_one word p place left rest from times v small is within on others read s = elim (bool_cases (place == s)) [
  | inl e ↦ (let same : place ≡ s = grind (arith, nat_tests) in
      let here : (word_of s == word) ≡ true = one_test (word_of s) word (omega arith) in
      let at : s % 64 ≡ p = omega arith in
      let was : has left s ≡ true = has_same left s p (omega arith) ∙ on in
      let gone : has rest s ≡ false = others s ∙ (λ i. was i && not (one_test (s % 64) p at i)) in
      let put : number (slice_set times place v) s ≡ number from s =
      one_put times v place s within ∙ ap (λ b. cond b v (number times s)) e ∙ read ∙ ap (number from) same in
      rw (here, gone, was) put)
  | inr e ↦ (
      let kept : number (slice_set times place v) s ≡ number times s =
      one_put times v place s within ∙ ap (λ b. cond b v (number times s)) e in
      rw kept (elim (bool_cases (word_of s == word)) [
        | inl here ↦ (let same : word_of s ≡ word = grind (arith, nat_tests) in
            let away : (s % 64 == p) ≡ false =
            ne_eqb (s % 64) p (λ at. let bad : true ≡ false = sym (one_test place s (omega arith)) ∙ e in absurd (cc)) in
            let still : has rest s ≡ has left s = others s ∙ ap (λ b. has left s && not b) away ∙ and_true (has left s) in
            rw (here, still) refl)
        | inr away ↦ rw away refl
      ]))
]

-- all places are
pub take_all : (word : ℕ) (left : Word) (from times : List ℤ) → ((q : ℕ) → has left q ≡ false) → (s : ℕ)
    → number times s ≡ taken word left from times s
take_all word left from times none s = rw (none s) (both (word_of s == word) (number times s))
  where
    both : (b : Bool) (x : ℤ) → x ≡ cond b x x
    both true x = refl
    both false x = refl

flag_below : (flags : List Bool) (s : ℕ) → flag flags s ≡ true → s < length flags
flag_below flags s on = elim (cases_lt s (length flags)) [
  | inl lt ↦ lt
  | inr le ↦ absurd (let bad : true ≡ false = sym on ∙ past (length flags) s flags refl le in cc)
]

-- a step with a flag in one of two tables is one of their steps
pub one_below : (active on : List Bool) (n s : ℕ) → length active ≡ n → length on ≡ n → (flag active s || flag on s) ≡ true → s < n
one_below active on n s first second e = elim (bool_cases (flag active s)) [
  | inl here ↦ omega (arith, first, flag_below active s here)
  | inr off ↦ (
      let there : flag on s ≡ true = sym (ap (λ b. b || flag on s) off) ∙ e in
      omega (arith, second, flag_below on s there))
]

-- the times with those of the steps with a flag in one of the two tables taken over
abbrev pub joined : List Bool → List Bool → List ℤ → List ℤ → ℕ → ℤ
joined active on from times s = cond (flag active s || flag on s) (number from s) (number times s)

module _ (active on : List Bool) (from old : List ℤ) where
  -- one word more is
  pub joined_more : (mid new : List ℤ) (k : ℕ) (moved : Word) → ((s : ℕ) → word_of s ≡ k → has moved s ≡ (flag active s || flag on s))
      → AreDone k (joined active on from old) (number old) (number mid)
      → ArePut k (λ s. cond (has moved s) (number from s) (number mid s)) (number mid) (number new)
      → AreDone (k + 1) (joined active on from old) (number old) (number new)
  joined_more mid new k moved has_is so_far put =
      more_by (joined active on from old) (number old) (λ s. cond (has moved s) (number from s) (number mid s)) (number mid) (number new) k
      so_far put (λ s e. (λ i. cond (has_is s e i) (number from s) (so_far.rest s (omega arith) i)))

  -- all words are
  pub joined_all : (new : List ℤ) (n k : ℕ) → div_ceil n 64 ≤ k → AreDone k (joined active on from old) (number old) (number new)
      → (s : ℕ) → s < n → number new s ≡ joined active on from old s
  joined_all new n k le so_far s lt = so_far.done s (omega arith)

-- where the others are the same all are
pub all_taken : (active on : List Bool) (from old new : List ℤ) (n : ℕ) → length new ≡ n → length from ≡ n
    → ((s : ℕ) → s < n → number new s ≡ joined active on from old s)
    → ((s : ℕ) → s < n → flag active s ≡ false → flag on s ≡ false → number old s ≡ number from s) → new ≡ from
all_taken active on from old new n long from_long each same = ext_get_or (pos 0) new from (long ∙ sym from_long) (λ s lt.
    let within : s < n = omega (arith, lt, long) in
    each s within ∙ either (flag active s) (flag on s) (number from s) (number old s) (same s within))
  where
    either : (a b : Bool) (x y : ℤ) → (a ≡ false → b ≡ false → y ≡ x) → cond (a || b) x y ≡ x
    either true b x y same = refl
    either false true x y same = refl
    either false false x y same = same refl refl
