-- Actions with one association by SD or SL.
use Rattle.std.proofs.Common.{◌≡◌, ℕ, suc, ◌<◌, ◌≤◌, ◌==◌, Bool, true, false, ◌&&◌, ◌||◌, List, [], ◌∷◌, length, get_or, arith, refl, sym, ◌∙◌, ap, inl, inr}
use Rattle.std.specs.Prelude.{filter, slice_index_or}
use Rattle.std.specs.List.{list_any}
use Rattle.std.proofs.lemmas.Bool.Decides.{nat_tests}
use Rattle.sfc_base.specs.declared.qualifier.TimedQualifier.TheVariants.{Limited, Delayed, StoredDelayed, DelayedStored, StoredLimited}
use Rattle.sfc_flags.specs.Flags.{flag}
use Rattle.sfc_plant.specs.declared.association.Qualifier.{Qualifier}
use Rattle.sfc_plant.specs.declared.association.Qualifier.TheVariants as qualifier
use Rattle.sfc_tables.specs.declared.step_action.StepAction.{StepAction}
use Rattle.sfc_action.specs.ActionControl.{Scan, L, D, DS, is, acts, is_timed}
use Rattle.sfc_action.specs.Private.Singles.{is_stored, AreSingle}
use Rattle.sfc_action.proofs.Elapsed.{bool_cases, and_left}

-- ---- looking for them

-- the actions of the first n of these associations that are by SD or SL have their flags
abbrev pub AreSeen : List Bool → List StepAction → ℕ → Type 0
AreSeen seen xs n = (k : ℕ) (d : StepAction) → k < n → is_stored (slice_index_or xs k d).qualifier ≡ true
    → flag seen (slice_index_or xs k d).action.0 ≡ true

-- no action has two of the first n
abbrev pub AreSingleTo : List StepAction → ℕ → Type 0
AreSingleTo xs n = (j k : ℕ) (d : StepAction) → j < k → k < n → (slice_index_or xs j d).action.0 ≡ (slice_index_or xs k d).action.0
    → is_stored (slice_index_or xs j d).qualifier ≡ true → is_stored (slice_index_or xs k d).qualifier ≡ false

-- ---- how many act

or_left : (x y : Bool) → (x || y) ≡ false → x ≡ false
or_left true y e = e
or_left false y e = refl

or_right : (x y : Bool) → (x || y) ≡ false → y ≡ false
or_right true y e = absurd (let bad : true ≡ false = e in cc)
or_right false y e = e

none_of : (x : Bool) → (x && false) ≡ true → true ≡ false
none_of true e = sym e
none_of false e = sym e

-- an association with a time that acts is by SD or SL, where none acts by another qualifier
one_stored : (v : Bool) (q : Qualifier) → (v && is L q) ≡ false → (v && is D q) ≡ false → (v && is DS q) ≡ false
    → (v && is_timed q) ≡ true → is_stored q ≡ true
one_stored v (qualifier.Timed Limited t) l d ds e = absurd (let bad : true ≡ false = sym e ∙ l in cc)
one_stored v (qualifier.Timed Delayed t) l d ds e = absurd (let bad : true ≡ false = sym e ∙ d in cc)
one_stored v (qualifier.Timed DelayedStored t) l d ds e = absurd (let bad : true ≡ false = sym e ∙ ds in cc)
one_stored v (qualifier.Timed StoredDelayed t) l d ds e = refl
one_stored v (qualifier.Timed StoredLimited t) l d ds e = refl
one_stored v qualifier.NonStored l d ds e = absurd (let bad = none_of v e in cc)
one_stored v qualifier.Reset l d ds e = absurd (let bad = none_of v e in cc)
one_stored v qualifier.Set l d ds e = absurd (let bad = none_of v e in cc)
one_stored v qualifier.Pulse l d ds e = absurd (let bad = none_of v e in cc)
one_stored v qualifier.RisingPulse l d ds e = absurd (let bad = none_of v e in cc)
one_stored v qualifier.FallingPulse l d ds e = absurd (let bad = none_of v e in cc)

module _ (a : ℕ) (scan : Scan) where
  -- it acts, and has a time
  abbrev pub times : StepAction → Bool
  times x = acts a scan x && is_timed x.qualifier

  -- none of these acts by L, D or DS
  pub record AreOff (xs : List StepAction) : Type 0 where
    pub limited : list_any (λ x. acts a scan x && is L x.qualifier) xs ≡ false
    pub delayed : list_any (λ x. acts a scan x && is D x.qualifier) xs ≡ false
    pub delayed_stored : list_any (λ x. acts a scan x && is DS x.qualifier) xs ≡ false

  off_here : (x : StepAction) (xs : List StepAction) → AreOff (x ∷ xs) → times x ≡ true → is_stored x.qualifier ≡ true
  off_here x xs off e =
      one_stored (acts a scan x) x.qualifier
      (or_left (acts a scan x && is L x.qualifier) (list_any (λ x. acts a scan x && is L x.qualifier) xs) off.limited)
      (or_left (acts a scan x && is D x.qualifier) (list_any (λ x. acts a scan x && is D x.qualifier) xs) off.delayed)
      (or_left (acts a scan x && is DS x.qualifier) (list_any (λ x. acts a scan x && is DS x.qualifier) xs) off.delayed_stored) e

  off_later : (x : StepAction) (xs : List StepAction) → AreOff (x ∷ xs) → AreOff xs
  off_later x xs off = record {
    limited = or_right (acts a scan x && is L x.qualifier) (list_any (λ x. acts a scan x && is L x.qualifier) xs) off.limited;
    delayed = or_right (acts a scan x && is D x.qualifier) (list_any (λ x. acts a scan x && is D x.qualifier) xs) off.delayed;
    delayed_stored = or_right (acts a scan x && is DS x.qualifier) (list_any (λ x. acts a scan x && is DS x.qualifier) xs) off.delayed_stored;
  }

  at_action : (x : StepAction) → times x ≡ true → x.action.0 ≡ a
  at_action x e =
      let t = and_left (x.action.0 == a) (flag scan.active x.step.0) (and_left (acts a scan x) (is_timed x.qualifier) e) in
      grind (arith, nat_tests)

  -- none acts that has a time, where the action has none by SD or SL
  none_times : (xs : List StepAction) → AreOff xs
      → ((k : ℕ) (d : StepAction) → k < length xs → a ≡ (get_or xs k d).action.0 → is_stored (get_or xs k d).qualifier ≡ false)
      → filter times xs ≡ []
  none_times [] off none = refl
  none_times (x ∷ xs) off none =
      let later = none_times xs (off_later x xs off) (λ k d lt e. none (suc k) d (omega (arith, lt)) e) in
      elim (bool_cases (times x)) [
        | inr not_timed ↦ (rw not_timed later)
        | inl timed ↦ absurd (
            let bad : true ≡ false = sym (off_here x xs off timed) ∙ none 0 x (omega arith) (sym (at_action x timed)) in
            cc)
      ]

  pub few_times : (xs : List StepAction) → AreOff xs → AreSingle xs → length (filter times xs) ≤ 1
  few_times [] off single = omega arith
  few_times (x ∷ xs) off single =
      elim (bool_cases (times x)) [
        | inr not_timed ↦ (
            let later = few_times xs (off_later x xs off)
            (λ j k d less lt same on. single (suc j) (suc k) d (omega (arith, less)) (omega (arith, lt)) same on) in
            rw not_timed later)
        | inl timed ↦ (
            let empty : filter times xs ≡ [] = none_times xs (off_later x xs off)
            (λ k d lt e. single 0 (suc k) d (omega arith) (omega (arith, lt)) (at_action x timed ∙ e) (off_here x xs off timed)) in
            let none : length (filter times xs) ≡ 0 = ap length empty in
            rw timed (omega (arith, none)))
      ]
