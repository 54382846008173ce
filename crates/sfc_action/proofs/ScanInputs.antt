-- What the walk over the active steps leaves as inputs and times is what the definitions say.
use Rattle.std.proofs.Common.{◌≡◌, ℕ, ◌<◌, ◌==◌, Bool, true, false, cond, ◌&&◌, ◌||◌, ◌⊎◌, List, [], ◌∷◌, length, arith, refl, sym, ◌∙◌, ap, inl, inr, ℤ, pos}
use Rattle.std.specs.Prelude.{slice_set, slice_index_or, All}
use Rattle.std.proofs.lemmas.Bool.Decides.{nat_tests}
use Rattle.std.proofs.lemmas.Grind.{common_steps}
use Rattle.std.proofs.lemmas.List.{length-set}
use Rattle.std.proofs.lemmas.List.Elements.{All-head, All-tail, All-filter}
use Rattle.sfc_base.specs.declared.qualifier.TimedQualifier.TheVariants.{Limited, Delayed, StoredDelayed, DelayedStored, StoredLimited}
use Rattle.sfc_flags.specs.Flags.{flag, places_from}
use Rattle.sfc_plant.specs.declared.association.Qualifier.{Qualifier}
use Rattle.sfc_plant.specs.declared.association.Qualifier.TheVariants.{NonStored, Reset, Set, Pulse, RisingPulse, FallingPulse, Timed}
use Rattle.sfc_tables.specs.declared.step_action.StepAction.{StepAction}
use Rattle.sfc_action.specs.declared.inputs.Inputs.{Inputs}
use Rattle.sfc_action.specs.ActionControl.{Letter, N, R, S, L, D, P, SD, DS, SL, P1, P0}
use Rattle.sfc_action.specs.ActionControl.{is, is_timed}
use Rattle.sfc_action.specs.Private.Marking.{AreSized, marked, all_marked, with_preset, all_presets}
use Rattle.sfc_action.specs.Private.Marking.{of_step, marked_at, presets_at, IsWithin}
use Rattle.sfc_action.proofs.Sizes.{sized_marked}
use Rattle.sfc_action.proofs.Walks.{Gathering, total, walked, unit_right}

-- ---- one write

bool_cases : (b : Bool) → (b ≡ true) ⊎ (b ≡ false)
bool_cases true = inl refl
bool_cases false = inr refl

pub one_set : (flags : List Bool) (a b : ℕ) → a < length flags → flag (slice_set flags a true) b ≡ (flag flags b || (a == b))
one_set flags a b lt = elim (bool_cases (a == b)) [
  | inl e ↦ (let same : a ≡ b = grind (arith, nat_tests) in rw e (grind (arith, common_steps) ∙ sym (or_true (flag flags b))))
  | inr e ↦ (let apart : a ≡ b → ⊥ = λ h. (let t : (a == b) ≡ true = grind (arith, nat_tests) in let bad : true ≡ false = sym t ∙ e in absurd cc) in
      rw e (grind (arith, common_steps) ∙ sym (or_false (flag flags b))))
]
  where
    or_true : (b : Bool) → (b || true) ≡ true
    or_true true = refl
    or_true false = refl

    or_false : (b : Bool) → (b || false) ≡ b
    or_false true = refl
    or_false false = refl

-- ---- inputs by letter

abbrev pub flags_at : Inputs → Letter → List Bool
flags_at i N = i.non_stored
flags_at i R = i.reset
flags_at i S = i.set
flags_at i L = i.timed.limited
flags_at i D = i.timed.delayed
flags_at i P = i.pulse
flags_at i SD = i.timed.stored_delayed
flags_at i DS = i.timed.delayed_stored
flags_at i SL = i.timed.stored_limited
flags_at i P1 = i.rising_pulse
flags_at i P0 = i.falling_pulse

or_none : (b e : Bool) → b ≡ (b || (e && false))
or_none true e = refl
or_none false true = refl
or_none false false = refl

and_true : (e : Bool) → (e && true) ≡ e
and_true true = refl
and_true false = refl

-- the association is of the action, by this letter
abbrev names : ℕ → Letter → StepAction → Bool
names b letter x = (x.action.0 == b) && is letter x.qualifier

module _ (n : ℕ) (i : Inputs) (a b : ℕ) (lt : a < n) (h : AreSized n i) where
  put : (flags : List Bool) → length flags ≡ n → flag (slice_set flags a true) b ≡ (flag flags b || ((a == b) && true))
  put flags e = one_set flags a b (omega arith) ∙ ap (λ x. flag flags b || x) (sym (and_true (a == b)))

  keep : (flags : List Bool) → flag flags b ≡ (flag flags b || ((a == b) && false))
  keep flags = or_none (flag flags b) (a == b)

  -- one more association acts
  pub letter_marked : (q : Qualifier) (letter : Letter)
      → flag (flags_at (marked q a i) letter) b ≡ (flag (flags_at i letter) b || ((a == b) && is letter q))
  letter_marked NonStored N = put i.non_stored h.non_stored
  letter_marked NonStored _ = keep _
  letter_marked Reset R = put i.reset h.reset
  letter_marked Reset _ = keep _
  letter_marked Set S = put i.set h.set
  letter_marked Set _ = keep _
  letter_marked Pulse P = put i.pulse h.pulse
  letter_marked Pulse _ = keep _
  letter_marked RisingPulse P1 = put i.rising_pulse h.rising_pulse
  letter_marked RisingPulse _ = keep _
  letter_marked FallingPulse P0 = put i.falling_pulse h.falling_pulse
  letter_marked FallingPulse _ = keep _
  letter_marked (Timed Limited time) L = put i.timed.limited h.timed.limited
  letter_marked (Timed Limited time) _ = keep _
  letter_marked (Timed Delayed time) D = put i.timed.delayed h.timed.delayed
  letter_marked (Timed Delayed time) _ = keep _
  letter_marked (Timed StoredDelayed time) SD = put i.timed.stored_delayed h.timed.stored_delayed
  letter_marked (Timed StoredDelayed time) _ = keep _
  letter_marked (Timed DelayedStored time) DS = put i.timed.delayed_stored h.timed.delayed_stored
  letter_marked (Timed DelayedStored time) _ = keep _
  letter_marked (Timed StoredLimited time) SL = put i.timed.stored_limited h.timed.stored_limited
  letter_marked (Timed StoredLimited time) _ = keep _

-- ---- many associations

preset_length : (n : ℕ) (times : List ℤ) (x : StepAction) (ps : List ℤ) → length ps ≡ n → length (with_preset times x ps) ≡ n
preset_length n times x ps e = by_test (is_timed x.qualifier)
  where
    by_test : (b : Bool)
        → length (cond b (slice_set ps x.action.0 (slice_index_or times x.number.0 (pos 0))) ps) ≡ n
    by_test true = length-set _ _ _ ∙ e
    by_test false = e

module _ {M : Type 0} (g : Gathering M) (n m : ℕ) (times : List ℤ) (o : Inputs → List ℤ → M) (f : StepAction → M)
    (each : (x : StepAction) (i : Inputs) (ps : List ℤ) → IsWithin n m x → AreSized n i → length ps ≡ n
    → o (marked x.qualifier x.action.0 i) (with_preset times x ps) ≡ g.join (o i ps) (f x)) where
  record Left (i : Inputs) (ps : List ℤ) (value : M) : Type 0 where
    sized : AreSized n i
    presets : length ps ≡ n
    is : o i ps ≡ value

  all_left : (xs : List StepAction) (i : Inputs) (ps : List ℤ) → All (IsWithin n m) xs → AreSized n i → length ps ≡ n
      → Left (all_marked xs i) (all_presets times xs ps) (g.join (o i ps) (total g f xs))
  all_left [] i ps within sized e = record { sized = sized; presets = e; is = sym (unit_right g (o i ps)) }
  all_left (x ∷ xs) i ps within sized e =
      let here = All-head (IsWithin n m) x xs within in
      let rest = all_left xs (marked x.qualifier x.action.0 i) (with_preset times x ps) (All-tail (IsWithin n m) x xs within)
      (sized_marked n x.qualifier x.action.0 i sized) (preset_length n times x ps e) in
      record {
        sized = rest.sized;
        presets = rest.presets;
        is = rest.is ∙ ap (λ v. g.join v (total g f xs)) (each x i ps here sized e) ∙ g.assoc (o i ps) (f x) (total g f xs);
      }

  places_left : (associations : List StepAction) (places : List ℕ) (i : Inputs) (ps : List ℤ) → All (IsWithin n m) associations
      → AreSized n i → length ps ≡ n
      → Left (marked_at associations places i) (presets_at times associations places ps)
      (g.join (o i ps) (total g (λ s. total g f (of_step associations s)) places))
  places_left associations [] i ps within sized e = record { sized = sized; presets = e; is = sym (unit_right g (o i ps)) }
  places_left associations (s ∷ places) i ps within sized e =
      let xs = of_step associations s in
      let one = all_left xs i ps (All-filter (λ x. x.step.0 == s) (IsWithin n m) associations within) sized e in
      let rest = places_left associations places (all_marked xs i) (all_presets times xs ps) within one.sized one.presets in
      record {
        sized = rest.sized;
        presets = rest.presets;
        is =
            rest.is ∙ ap (λ v. g.join v (total g (λ k. total g f (of_step associations k)) places)) one.is
            ∙ g.assoc (o i ps) (total g f xs) (total g (λ k. total g f (of_step associations k)) places);
      }

  -- from nothing on: what all associations give whose step is active
  pub gathered_at : (associations : List StepAction) (active : List Bool) (i : Inputs) (ps : List ℤ)
      → All (IsWithin n m) associations → AreSized n i → length ps ≡ n → o i ps ≡ g.unit
      → o (marked_at associations (places_from active 0) i) (presets_at times associations (places_from active 0) ps)
      ≡ total g (λ x. cond (flag active x.step.0) (f x) g.unit) associations
  gathered_at associations active i ps within sized e none =
      (places_left associations (places_from active 0) i ps within sized e).is
      ∙ ap (λ v. g.join v (total g (λ s. total g f (of_step associations s)) (places_from active 0))) none
      ∙ g.unit_left (total g (λ s. total g f (of_step associations s)) (places_from active 0))
      ∙ walked g (λ (x : StepAction). x.step.0) f associations active
