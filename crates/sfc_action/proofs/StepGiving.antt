-- What the associations of a step give: those without a time word by word, and then those with a time.
use Rattle.std.proofs.Common.{◌≡◌, ℕ, zero, suc, ◌+◌, ◌<◌, ◌≤◌, ◌==◌, Bool, true, false, cond, ◌||◌, List, [], ◌∷◌, ◌++◌, length, get_or, arith, refl, sym, ◌∙◌, ap, inl, inr, eq-eqb}
use Rattle.std.proofs.Common.{ℤ, subst, drop, drop-cons}
use Rattle.std.specs.Prelude.{not, slice_set, All}
use Rattle.std.proofs.lemmas.Bool.{cases_eq, cases_lt, ne_eqb}
use Rattle.std.proofs.lemmas.List.{length-append, append-nil, get_or_append_left}
use Rattle.std.proofs.Math.Seq.{get_or-append_seam}
use Rattle.std.proofs.lemmas.List.Elements.{filter-append, All-head, All-tail, All-filter}
use Rattle.sfc_flags.specs.Words.{word_of}
use Rattle.sfc_base.specs.declared.qualifier.TimedQualifier.{TimedQualifier}
use Rattle.sfc_plant.specs.declared.association.Time.{Time}
use Rattle.sfc_plant.specs.declared.association.Qualifier.{Qualifier}
use Rattle.sfc_plant.specs.declared.association.Qualifier.TheVariants.{NonStored, Reset, Set, Pulse, RisingPulse, FallingPulse, Timed}
use Rattle.sfc_tables.specs.declared.step_action.StepAction.{StepAction}
use Rattle.sfc_tables.specs.Tables.{Tabled}
use Rattle.sfc_action.specs.declared.inputs.Inputs.{Inputs}
use Rattle.sfc_action.specs.declared.step_input.PlainRun.{PlainRun}
use Rattle.sfc_action.specs.Agreement.{AreInputsOf}
use Rattle.sfc_action.specs.ActionControl.{is_timed}
use Rattle.sfc_action.specs.Private.Marking.{AreSized, of_step, marked, all_marked, with_preset, all_presets, IsWithin}
use Rattle.sfc_action.specs.Private.Marks.{with_input, with_plain, with_all_plain}
use Rattle.sfc_action.specs.Private.Rows.{PlainRow, InputRow, input_row, plain_in, no_plain}
use Rattle.sfc_action.specs.Private.StepGiving.{given, all_given, joined, all_joined, timed_of, plain_of, StepGiven, IsRunOf, IsGivenBy}
use Rattle.sfc_action.proofs.Rows.{same_inputs}
use Rattle.sfc_action.proofs.SetTables.{marked_row}
use Rattle.sfc_action.proofs.Sizes.{sized_marked}

-- ---- inputs without a time, in a row

or_true : (b : Bool) → (b || true) ≡ true
or_true true = refl
or_true false = refl

or_false : (b : Bool) → (b || false) ≡ b
or_false true = refl
or_false false = refl

none_given : (r : InputRow) → with_all_plain no_plain r ≡ r
none_given r = λ i. record r {
  non_stored = or_false r.non_stored i;
  reset = or_false r.reset i;
  set = or_false r.set i;
  pulse = or_false r.pulse i;
  rising_pulse = or_false r.rising_pulse i;
  falling_pulse = or_false r.falling_pulse i;
}

one_given : (q : Qualifier) (p : PlainRow) (r : InputRow) → is_timed q ≡ false
    → with_all_plain (with_plain q p) r ≡ with_input q (with_all_plain p r)
one_given NonStored p r e = λ i. record (with_all_plain p r) { non_stored = or_true r.non_stored i }
one_given Reset p r e = λ i. record (with_all_plain p r) { reset = or_true r.reset i }
one_given Set p r e = λ i. record (with_all_plain p r) { set = or_true r.set i }
one_given Pulse p r e = λ i. record (with_all_plain p r) { pulse = or_true r.pulse i }
one_given RisingPulse p r e = λ i. record (with_all_plain p r) { rising_pulse = or_true r.rising_pulse i }
one_given FallingPulse p r e = λ i. record (with_all_plain p r) { falling_pulse = or_true r.falling_pulse i }
one_given (Timed q time) p r e = absurd cc

-- ---- one association without a time more

module _ (a action : ℕ) (q : Qualifier) (e : is_timed q ≡ false) where
  abbrev one : InputRow → InputRow
  one r = cond (a == action) (with_input q r) r

  in_word : (b : Bool) (p : PlainRow) (r : InputRow)
      → with_all_plain (cond b (with_plain q p) p) r ≡ cond b (with_input q (with_all_plain p r)) (with_all_plain p r)
  in_word true p r = one_given q p r e
  in_word false p r = refl

  -- beside what a word had
  pub joined_more : (old new : PlainRun) → old.number ≡ word_of action → new.number ≡ old.number
      → (word_of a ≡ word_of action → plain_in new.plain a ≡ cond (a == action) (with_plain q (plain_in old.plain a)) (plain_in old.plain a))
      → (r : InputRow) → joined a new r ≡ one (joined a old r)
  joined_more old new here same put r = elim (cases_eq (word_of a) (word_of action)) [
    | inl at ↦ (
        let old_here : (word_of a == old.number) ≡ true = eq-eqb (word_of a) old.number (at ∙ sym here) in
        let new_here : (word_of a == new.number) ≡ true = eq-eqb (word_of a) new.number (at ∙ sym here ∙ sym same) in
        rw (old_here, new_here) (ap (λ p. with_all_plain p r) (put at) ∙ in_word (a == action) (plain_in old.plain a) r))
    | inr apart ↦ (
        let old_there : (word_of a == old.number) ≡ false = ne_eqb (word_of a) old.number (λ h. apart (h ∙ here)) in
        let new_there : (word_of a == new.number) ≡ false = ne_eqb (word_of a) new.number (λ h. apart (h ∙ same ∙ here)) in
        let other : (a == action) ≡ false = ne_eqb a action (λ h. apart (ap word_of h)) in
        rw (old_there, new_there, other) refl)
  ]

  -- in a word of its own
  pub joined_alone : (new : PlainRun) → new.number ≡ word_of action
      → (word_of a ≡ word_of action → plain_in new.plain a ≡ cond (a == action) (with_plain q no_plain) no_plain)
      → (r : InputRow) → joined a new r ≡ one r
  joined_alone new here put r = elim (cases_eq (word_of a) (word_of action)) [
    | inl at ↦ (
        let new_here : (word_of a == new.number) ≡ true = eq-eqb (word_of a) new.number (at ∙ sym here) in
        rw new_here (ap (λ p. with_all_plain p r) (put at) ∙ in_word (a == action) no_plain r
        ∙ ap (λ s. cond (a == action) (with_input q s) s) (none_given r)))
    | inr apart ↦ (
        let new_there : (word_of a == new.number) ≡ false = ne_eqb (word_of a) new.number (λ h. apart (h ∙ here)) in
        let other : (a == action) ≡ false = ne_eqb a action (λ h. apart (ap word_of h)) in
        rw (new_there, other) refl)
  ]

  pub last_more : (runs : List PlainRun) (k : ℕ) (d new : PlainRun) → suc k ≡ length runs
      → ((r : InputRow) → joined a new r ≡ one (joined a (get_or runs k d) r))
      → (r : InputRow) → all_joined a (slice_set runs k new) r ≡ one (all_joined a runs r)
  last_more [] k d new size more r = absurd (omega arith)
  last_more (run ∷ []) zero d new size more r = more r
  last_more (run ∷ []) (suc k) d new size more r = absurd (omega arith)
  last_more (run ∷ next ∷ runs) zero d new size more r = absurd (omega arith)
  last_more (run ∷ next ∷ runs) (suc k) d new size more r = last_more (next ∷ runs) k d new (omega arith) more (joined a run r)

  pub one_more : (runs : List PlainRun) (new : PlainRun) → ((r : InputRow) → joined a new r ≡ one r)
      → (r : InputRow) → all_joined a (runs ++ new ∷ []) r ≡ one (all_joined a runs r)
  one_more [] new more r = more r
  one_more (run ∷ runs) new more r = one_more runs new more (joined a run r)

pub run_alone : (n action : ℕ) (q : Qualifier) (new : PlainRun) → action < n → new.number ≡ word_of action
    → ((a : ℕ) → word_of a ≡ word_of action → plain_in new.plain a ≡ cond (a == action) (with_plain q no_plain) no_plain) → IsRunOf n new
run_alone n action q new lt here put = record {
  number = omega (arith, here);
  blank = λ a e le. put a (e ∙ here) ∙ rw (ne_eqb a action (λ same. omega (arith, same, le, lt))) refl;
}

-- ---- one word of a run more

pub next_joined : (a : ℕ) (runs : List PlainRun) (k : ℕ) (d : PlainRun) (old new : Inputs) → k < length runs
    → input_row new a ≡ joined a (get_or runs k d) (input_row old a)
    → all_joined a (drop (k + 1) runs) (input_row new a) ≡ all_joined a (drop k runs) (input_row old a)
next_joined a runs k d old new lt e =
    let next : k + 1 ≡ suc k = omega arith in
    rw next (ap (all_joined a (drop (suc k) runs)) e ∙ sym (ap (λ rs. all_joined a rs (input_row old a)) (drop-cons runs k d lt)))

-- ---- one association more

given_last : (a : ℕ) (xs : List StepAction) (x : StepAction) (r : InputRow)
    → all_given a (xs ++ x ∷ []) r ≡ given a x (all_given a xs r)
given_last a [] x r = refl
given_last a (y ∷ xs) x r = given_last a xs x (given a y r)

module _ (xs : List StepAction) (x : StepAction) where
  timed_more : is_timed x.qualifier ≡ true → timed_of (xs ++ x ∷ []) ≡ timed_of xs ++ x ∷ []
  timed_more e = filter-append (λ (y : StepAction). is_timed y.qualifier) xs (x ∷ [])
      ∙ ap (λ b. timed_of xs ++ cond b (x ∷ []) []) e

  timed_same : is_timed x.qualifier ≡ false → timed_of (xs ++ x ∷ []) ≡ timed_of xs
  timed_same e = filter-append (λ (y : StepAction). is_timed y.qualifier) xs (x ∷ [])
      ∙ ap (λ b. timed_of xs ++ cond b (x ∷ []) []) e ∙ append-nil (timed_of xs)

  plain_more : is_timed x.qualifier ≡ false → plain_of (xs ++ x ∷ []) ≡ plain_of xs ++ x ∷ []
  plain_more e = filter-append (λ (y : StepAction). not (is_timed y.qualifier)) xs (x ∷ [])
      ∙ ap (λ b. plain_of xs ++ cond (not b) (x ∷ []) []) e

  plain_same : is_timed x.qualifier ≡ true → plain_of (xs ++ x ∷ []) ≡ plain_of xs
  plain_same e = filter-append (λ (y : StepAction). not (is_timed y.qualifier)) xs (x ∷ [])
      ∙ ap (λ b. plain_of xs ++ cond (not b) (x ∷ []) []) e ∙ append-nil (plain_of xs)

  -- with a time
  pub input_timed : (n : ℕ) (old new : StepGiven) → is_timed x.qualifier ≡ true → new.plain ≡ old.plain
      → new.timed ≡ old.timed ++ x ∷ [] → IsGivenBy n xs old → IsGivenBy n (xs ++ x ∷ []) new
  input_timed n old new e plain timed was = record {
    plain = λ a r. ap (λ runs. all_joined a runs r) plain ∙ was.plain a r ∙ ap (λ ys. all_given a ys r) (sym (plain_same e));
    timed = timed ∙ ap (λ ys. ys ++ x ∷ []) was.timed ∙ sym (timed_more e);
    within = rw plain was.within;
    few = omega (arith, ap length plain, ap length timed, length-append old.timed (x ∷ []), length-append xs (x ∷ []), was.few);
  }

  -- without a time
  pub input_plain : (n : ℕ) (old new : StepGiven) → is_timed x.qualifier ≡ false
      → ((a : ℕ) (r : InputRow) → all_joined a new.plain r ≡ given a x (all_joined a old.plain r))
      → (All (IsRunOf n) old.plain → All (IsRunOf n) new.plain)
      → length new.plain ≤ length old.plain + 1
      → new.timed ≡ old.timed → IsGivenBy n xs old → IsGivenBy n (xs ++ x ∷ []) new
  input_plain n old new e rows within few timed was = record {
    plain = λ a r. rows a r ∙ ap (given a x) (was.plain a r) ∙ sym (given_last a (plain_of xs) x r) ∙ ap (λ ys. all_given a ys r) (sym (plain_more e));
    timed = timed ∙ was.timed ∙ sym (timed_same e);
    within = within was.within;
    few = omega (arith, few, ap length timed, length-append xs (x ∷ []), was.few);
  }

-- ---- a qualifier without a time

pub not_timed : (q : Qualifier) → ((kind : TimedQualifier) (time : Time) → q ≡ Timed kind time → ⊥) → is_timed q ≡ false
not_timed NonStored other = refl
not_timed Reset other = refl
not_timed Set other = refl
not_timed Pulse other = refl
not_timed RisingPulse other = refl
not_timed FallingPulse other = refl
not_timed (Timed kind time) other = absurd (other kind time refl)

-- ---- those with a time may come last

exchanged : (b c : Bool) (q p : Qualifier) (r : InputRow) → is_timed q ≡ true → is_timed p ≡ false
    → cond c (with_input p (cond b (with_input q r) r)) (cond b (with_input q r) r)
    ≡ cond b (with_input q (cond c (with_input p r) r)) (cond c (with_input p r) r)
exchanged false c q p r timed plain = refl
exchanged true false q p r timed plain = refl
exchanged true true (Timed q time) NonStored r timed plain = refl
exchanged true true (Timed q time) Reset r timed plain = refl
exchanged true true (Timed q time) Set r timed plain = refl
exchanged true true (Timed q time) Pulse r timed plain = refl
exchanged true true (Timed q time) RisingPulse r timed plain = refl
exchanged true true (Timed q time) FallingPulse r timed plain = refl
exchanged true true (Timed q time) (Timed p span) r timed plain = absurd cc
exchanged true true NonStored p r timed plain = absurd cc
exchanged true true Reset p r timed plain = absurd cc
exchanged true true Set p r timed plain = absurd cc
exchanged true true Pulse p r timed plain = absurd cc
exchanged true true RisingPulse p r timed plain = absurd cc
exchanged true true FallingPulse p r timed plain = absurd cc

module _ (a : ℕ) where
  given_past : (x : StepAction) (xs : List StepAction) (r : InputRow) → is_timed x.qualifier ≡ true
      → all_given a (plain_of xs) (given a x r) ≡ given a x (all_given a (plain_of xs) r)
  given_past x [] r e = refl
  given_past x (y ∷ xs) r e = by_test (is_timed y.qualifier) refl (λ s. given_past x xs s e)
    where
      by_test : (b : Bool) → is_timed y.qualifier ≡ b
          → ((s : InputRow) → all_given a (plain_of xs) (given a x s) ≡ given a x (all_given a (plain_of xs) s))
          → all_given a (cond (not b) (y ∷ plain_of xs) (plain_of xs)) (given a x r)
          ≡ given a x (all_given a (cond (not b) (y ∷ plain_of xs) (plain_of xs)) r)
      by_test true is rest = rest r
      by_test false is rest =
          ap (all_given a (plain_of xs)) (exchanged (a == x.action.0) (a == y.action.0) x.qualifier y.qualifier r e is)
          ∙ rest (given a y r)

  timed_last : (xs : List StepAction) (r : InputRow) → all_given a (timed_of xs) (all_given a (plain_of xs) r) ≡ all_given a xs r
  timed_last [] r = refl
  timed_last (x ∷ xs) r = by_test (is_timed x.qualifier) refl (timed_last xs (given a x r))
    where
      by_test : (b : Bool) → is_timed x.qualifier ≡ b
          → all_given a (timed_of xs) (all_given a (plain_of xs) (given a x r)) ≡ all_given a xs (given a x r)
          → all_given a (cond b (x ∷ timed_of xs) (timed_of xs)) (all_given a (cond (not b) (x ∷ plain_of xs) (plain_of xs)) r)
          ≡ all_given a xs (given a x r)
      by_test true is rest = ap (all_given a (timed_of xs)) (sym (given_past x xs r is)) ∙ rest
      by_test false is rest = rest

-- ---- all inputs

module _ (n m : ℕ) where
  pub sized_all : (xs : List StepAction) (i : Inputs) → AreSized n i → AreSized n (all_marked xs i)
  sized_all [] i h = h
  sized_all (x ∷ xs) i h = sized_all xs (marked x.qualifier x.action.0 i) (sized_marked n x.qualifier x.action.0 i h)

  rows_given : (a : ℕ) (xs : List StepAction) (i : Inputs) → All (IsWithin n m) xs → AreSized n i
      → input_row (all_marked xs i) a ≡ all_given a xs (input_row i a)
  rows_given a [] i within h = refl
  rows_given a (x ∷ xs) i within h =
      rows_given a xs (marked x.qualifier x.action.0 i) (All-tail (IsWithin n m) x xs within) (sized_marked n x.qualifier x.action.0 i h)
      ∙ ap (all_given a xs) (marked_row n x.action.0 a x.qualifier i h (All-head (IsWithin n m) x xs within).action)

  -- after the words of a step, and then its associations with a time
  pub step_marked : (xs : List StepAction) (step_given : StepGiven) (old mid new : Inputs) → IsGivenBy n xs step_given
      → All (IsWithin n m) xs → AreSized n old → AreSized n mid
      → ((a : ℕ) → input_row mid a ≡ all_joined a step_given.plain (input_row old a))
      → new ≡ all_marked step_given.timed mid → new ≡ all_marked xs old
  step_marked xs step_given old mid new is within h sized rows marks =
      let timed = All-filter (λ (x : StepAction). is_timed x.qualifier) (IsWithin n m) xs within in
      marks ∙ ap (λ ys. all_marked ys mid) is.timed
      ∙ same_inputs n (all_marked (timed_of xs) mid) (all_marked xs old) (sized_all (timed_of xs) mid sized) (sized_all xs old h)
      (λ a. rows_given a (timed_of xs) mid timed sized ∙ ap (all_given a (timed_of xs)) (rows a ∙ is.plain a (input_row old a))
      ∙ timed_last a xs (input_row old a) ∙ sym (rows_given a xs old within h))

-- ---- times

pub timed_presets : (times : List ℤ) (xs : List StepAction) (presets : List ℤ)
    → all_presets times (timed_of xs) presets ≡ all_presets times xs presets
timed_presets times [] presets = refl
timed_presets times (x ∷ xs) presets = by_test (is_timed x.qualifier) refl (timed_presets times xs)
  where
    by_test : (b : Bool) → is_timed x.qualifier ≡ b
        → ((ps : List ℤ) → all_presets times (timed_of xs) ps ≡ all_presets times xs ps)
        → all_presets times (cond b (x ∷ timed_of xs) (timed_of xs)) presets ≡ all_presets times xs (with_preset times x presets)
    by_test true is rest = rest _ ∙ ap (all_presets times xs) (rw is refl)
    by_test false is rest = rest presets ∙ ap (all_presets times xs) (rw is refl)

-- ---- the step inputs of tables

pub next_given : (P : ℕ → StepGiven → Type 0) (xs : List StepGiven) (x : StepGiven) (s : ℕ) → length xs ≡ s → P s x
    → ((j : ℕ) (d : StepGiven) → j < s → P j (get_or xs j d)) → (j : ℕ) (d : StepGiven) → j < s + 1 → P j (get_or (xs ++ x ∷ []) j d)
next_given P xs x s size here before j d lt = elim (cases_lt j s) [
  | inl earlier ↦ subst (P j) (sym (get_or_append_left xs (x ∷ []) d j (omega arith))) (before j d earlier)
  | inr later ↦ (
      let at : j ≡ length xs = omega arith in
      rw (at, get_or-append_seam xs x [] d) (subst (λ k. P k x) (sym size) here))
]

pub given_at : (tables : Tabled) (steps_given : List StepGiven) (s : ℕ) (d : StepGiven) → AreInputsOf tables steps_given
    → s < length tables.initial → IsGivenBy (length tables.actions) (of_step tables.associations s) (get_or steps_given s d)
unfolding AreInputsOf
given_at tables steps_given s d of lt = of.each s d lt
