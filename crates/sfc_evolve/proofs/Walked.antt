-- A walk over the active steps of one word, which proposes the transitions of each.
use Rattle.std.proofs.Common.{◌≡◌, inl, inr, ℕ, zero, suc, ◌+◌, ◌-◌, ◌%◌, ◌<◌, ◌≤◌, ◌==◌, ◌&&◌, not, Bool, true, false, List, [], ◌∷◌}
use Rattle.std.proofs.Common.{length, arith, refl, sym, ap, ◌∙◌}
use Rattle.std.proofs.Math.Seq.{drop-cons}
use Rattle.std.proofs.lemmas.Bool.{cases_lt, cases_eq, ne_eqb}
use Rattle.std.proofs.lemmas.Bool.Decides.{nat_tests}
use Rattle.std.proofs.lemmas.List.{drop_all}
use Rattle.sfc_flags.specs.declared.word.Word.{Word}
use Rattle.sfc_flags.specs.Flags.{flag, places_from}
use Rattle.sfc_flags.specs.Words.{has, word_of}
use Rattle.sfc_flags.proofs.Wordwise.{past}

-- what is left of a word are its flags from this place on
pub record IsLeft (active : List Bool) (left : Word) (at : ℕ) : Type 0 where
  pub within : at ≤ length active
  pub after : (s : ℕ) → s < 64 → at ≤ s → has left s ≡ flag active s
  pub before : (s : ℕ) → s < at → s < 64 → has left s ≡ false

module _ (active : List Bool) where
  skipped : (k p : ℕ) → p + k ≤ length active → ((j : ℕ) → p ≤ j → j < p + k → flag active j ≡ false)
      → places_from active p ≡ places_from active (p + k)
  skipped zero p le none = let e : p ≡ p + 0 = omega arith in ap (places_from active) e
  skipped (suc k) p le none =
      let e : suc p + k ≡ p + suc k = omega arith in
      let lt : p < length active = omega arith in
      let step : places_from active p ≡ places_from active (suc p) =
      rw (drop-cons active p false, none p (omega arith) (omega arith)) refl in
      step ∙ skipped k (suc p) (omega arith) (λ j a b. none j (omega arith) (omega arith)) ∙ ap (places_from active) e

  next_place : (p i : ℕ) → p ≤ i → i < length active → flag active i ≡ true → ((j : ℕ) → p ≤ j → j < i → flag active j ≡ false)
      → places_from active p ≡ i ∷ places_from active (i + 1)
  next_place p i le lt here none =
      let e : p + (i - p) ≡ i = omega arith in
      let s : suc i ≡ i + 1 = omega arith in
      let step : places_from active i ≡ i ∷ places_from active (suc i) = rw (drop-cons active i false, here) refl in
      skipped (i - p) p (omega arith) (λ j a b. none j a (omega arith)) ∙ ap (places_from active) e ∙ step
      ∙ ap (λ k. i ∷ places_from active k) s

  no_place : (p : ℕ) → p ≤ length active → ((j : ℕ) → p ≤ j → flag active j ≡ false) → places_from active p ≡ []
  no_place p le none =
      let e : p + (length active - p) ≡ length active = omega arith in
      let end : places_from active (length active) ≡ [] = rw (drop_all (length active) active (omega arith)) refl in
      skipped (length active - p) p (omega arith) (λ j a b. none j a) ∙ ap (places_from active) e ∙ end

  flag_below : (s : ℕ) → flag active s ≡ true → s < length active
  flag_below s on = elim (cases_lt s (length active)) [
    | inl lt ↦ lt
    | inr le ↦ absurd (let bad : true ≡ false = sym on ∙ past (length active) s active refl le in cc)
  ]

  module _ (left : Word) (at : ℕ) (is : IsLeft active left at) where
    -- the first place that is left is the next active step
    module _ (p : ℕ) (small : p < 64) (on : has left p ≡ true) where
      pub reached : at ≤ p
      reached = elim (cases_lt p at) [
        | inl lt ↦ absurd (let bad : true ≡ false = sym on ∙ is.before p lt small in cc)
        | inr le ↦ le
      ]

      pub next_on : flag active p ≡ true
      next_on = sym (is.after p small reached) ∙ on

      pub next_below : p < length active
      next_below = flag_below p next_on

      pub next_is : ((j : ℕ) → j < p → has left j ≡ false) → places_from active at ≡ p ∷ places_from active (p + 1)
      next_is first = next_place at p reached next_below next_on (λ j a b. sym (is.after j (omega arith) a) ∙ first j b)

      pub left_next : (rest : Word) → ((j : ℕ) → j < p → has left j ≡ false)
          → ((q : ℕ) → has rest q ≡ (has left q && not (q % 64 == p))) → IsLeft active rest (p + 1)
      left_next rest first others = record {
        within = let lt = next_below in omega (arith, lt);
        after = λ s lt le.
            let away : (s % 64 == p) ≡ false = ne_eqb (s % 64) p (λ e. omega arith) in
            let to : at ≤ s = let r = reached in omega (arith, r) in
            others s ∙ ap (λ b. has left s && not b) away ∙ and_true (has left s) ∙ is.after s lt to;
        before = λ s lt under. elim (cases_eq s p) [
          | inl e ↦ (let here : (s % 64 == p) ≡ true = eq_true (s % 64) p (omega arith) in
              others s ∙ ap (λ b. has left s && not b) here ∙ and_false (has left s))
          | inr d ↦ others s ∙ ap (λ b. b && not (s % 64 == p)) (first s (omega arith))
        ];
      }
        where
          and_true : (b : Bool) → (b && true) ≡ b
          and_true true = refl
          and_true false = refl

          and_false : (b : Bool) → (b && false) ≡ false
          and_false true = refl
          and_false false = refl

          eq_true : (x y : ℕ) → x ≡ y → (x == y) ≡ true
          eq_true x y e = grind (arith, nat_tests)

    -- where none is left there is no other
    pub none_left : length active ≤ 64 → ((q : ℕ) → has left q ≡ false) → places_from active at ≡ []
    none_left few none = no_place at is.within (λ j le. elim (cases_lt j 64) [
      | inl lt ↦ sym (is.after j lt le) ∙ none j
      | inr ge ↦ past (length active) j active refl (omega arith)
    ])

-- at first all is left
pub all_left : (active : List Bool) (left : Word) → ((s : ℕ) → word_of s ≡ 0 → has left s ≡ flag active s) → IsLeft active left 0
all_left active left same = record {
  within = omega arith;
  after = λ s lt le. same s (omega arith);
  before = λ s lt under. absurd (omega arith);
}
