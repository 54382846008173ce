-- The Boolean actions, one after the other.
use Rattle.std.proofs.Common.{◌≡◌, ◌≢◌, inl, inr, ℕ, zero, suc, ◌+◌, ◌-◌, ◌<◌, ◌≤◌, ◌==◌, ◌++◌, ◌∷◌, [], arith, Bool, true, false, cond, List, length, take, slice_get, Option, Some, None, refl, sym, ap, subst, ◌∙◌, append_assoc, append-nil}
use Rattle.std.proofs.lemmas.Bool.{cases_lt}
use Rattle.std.proofs.lemmas.Bool.Decides.{eqb_tells}
use Rattle.std.proofs.lemmas.List.{take_all}
use Rattle.std.proofs.lemmas.Option.{slice_get_within}
use Rattle.std.specs.Option.{option_map}
use Rattle.sfc_base.specs.declared.references.Variable.{Variable}
use Rattle.sfc_base.specs.declared.value.Value.{Value}
use Rattle.sfc_flags.specs.Flags.{flag}
use Rattle.sfc_plant.specs.declared.association.Target.{Target}
use Rattle.sfc_base.specs.declared.ids.ProgId.{ProgId}
use Rattle.sfc_plant.specs.Plants.{PlantData}
use Rattle.sfc_image.specs.Changes.{Change, Changes, Stored, with_change}
use Rattle.sfc_image.specs.Bodies.{with_changes}
use Rattle.sfc_image.specs.Outputs.{output, outputs}
use Rattle.sfc_plant.specs.declared.association.Target.TheVariants.{Boolean, Declared}
use Rattle.sfc_tables.specs.Actions.{actions_of}
use Rattle.sfc_plant.specs.Finding.{chart_of}
use Rattle.sfc_base.specs.declared.value.Value.TheVariants as value
use Rattle.sfc_image.specs.declared.slot.Slot.{Slot}
use Rattle.sfc_image.specs.Environments.{number_of}
use Rattle.sfc_image.specs.Bodies.{changes_in, stored_to}
use Rattle.sfc_image.specs.Private.Giving.{AssignedTo}
use Rattle.sfc_image.specs.Private.Keeping.{slot_at}
use Rattle.sfc_image.specs.Private.OutputMemos.{IsAssigned, HasQ, Stays}
use Rattle.sfc_image.specs.Private.Stores.{both_more}
use Rattle.sfc_image.proofs.Apart.{same_action}
use Rattle.sfc_image.proofs.OutputMemos.{others_have, here_has}
use Rattle.sfc_image.proofs.Left.{no_change, one_change}

module _ (plant : PlantData) (p : ProgId) (flags : List Bool) where
  -- one action more
  pub outputs_more : (a : ℕ) (targets : List Target) (k : ℕ) (target : Target) → slice_get targets k ≡ Some target
      → outputs plant p flags a (take (k + 1) targets)
      ≡ output plant p target (flag flags (a + k)) ++ outputs plant p flags a (take k targets)
  outputs_more a [] k target e = absurd cc
  outputs_more a (t ∷ ts) zero target e =
      let same : t ≡ target = cc in
      let here : a + 0 ≡ a = omega arith in
      ap (λ (x : Target). output plant p x (flag flags a)) same
      ∙ ap (λ (n : ℕ). output plant p target (flag flags n)) (sym here)
      ∙ sym (append-nil (output plant p target (flag flags (a + 0))))
  outputs_more a (t ∷ ts) (suc k) target e =
      let more : suc k + 1 ≡ suc (k + 1) = omega arith in
      let there : suc a + k ≡ a + suc k = omega arith in
      ap (λ (n : ℕ). outputs plant p flags a (take n (t ∷ ts))) more
      ∙ ap (λ (changes : List Change). changes ++ output plant p t (flag flags a)) (outputs_more (suc a) ts k target e)
      ∙ append_assoc (output plant p target (flag flags (suc a + k))) (outputs plant p flags (suc a) (take k ts))
      (output plant p t (flag flags a))
      ∙ ap (λ (n : ℕ). output plant p target (flag flags n) ++ (outputs plant p flags (suc a) (take k ts) ++ output plant p t (flag flags a)))
      there

-- there is an action of each number
pub some_target : (targets : List Target) (k : ℕ) → k < length targets → (target : Target) × (slice_get targets k ≡ Some target)
some_target [] k lt = absurd (omega arith)
some_target (t ∷ ts) zero lt = (t, refl)
some_target (t ∷ ts) (suc k) lt = some_target ts k (omega (arith, lt))

pub outputs_after : (plant : PlantData) (p : ProgId) (q : List Bool) (targets : List Target) (k : ℕ) (target : Target) (log : Changes)
    → slice_get targets k ≡ Some target
    → with_changes (outputs plant p q 0 (take (k + 1) targets)) log
    ≡ with_changes (output plant p target (flag q k)) (with_changes (outputs plant p q 0 (take k targets)) log)
outputs_after plant p q targets k target log at =
    let here : 0 + k ≡ k = omega arith in
    ap (λ (changes : List Change). with_changes changes log)
    (outputs_more plant p q 0 targets k target at
    ∙ ap (λ (n : ℕ). output plant p target (flag q n) ++ outputs plant p q 0 (take k targets)) here)
    ∙ both_more (output plant p target (flag q k)) (outputs plant p q 0 (take k targets)) log

-- ---- what is given already

-- what agrees with changes agrees with one more that stores what these slots of the program's variables have
abbrev pub StoresAgain : PlantData → ProgId → List Slot → (Changes → Type 0) → Type 0
StoresAgain plant p slots Agrees = (t : Changes) (v : Variable) (i : ℕ) (x : Value) → number_of plant p v ≡ Some i
    → (slot_at slots i).stored ≡ x → Agrees t → Agrees (with_change (Stored (record { 0 = i }) x) t)

module _ (plant : PlantData) (p : ProgId) (q : List Bool) (targets : List Target) (is : targets ≡ actions_of (chart_of plant p))
    (slots : List Slot) (Agrees : Changes → Type 0) (stays : StoresAgain plant p slots Agrees) where
  -- a variable that has the value already is assigned it
  one_again : (changes : Changes) (k : ℕ) (target : Target) → slice_get targets k ≡ Some target
      → HasQ plant p slots k (flag q k) → Agrees changes → Agrees (with_changes (output plant p target (flag q k)) changes)
  one_again changes k (Declared id) at has h = subst Agrees (sym (no_change changes)) h
  one_again changes k (Boolean v) at has h = by_number (number_of plant p v) refl where
    by_number : (o : Option ℕ) → number_of plant p v ≡ o
        → Agrees (with_changes (changes_in (option_map (stored_to (value.Bool (flag q k))) o)) changes)
    by_number None e = subst Agrees (sym (no_change changes)) h
    by_number (Some i) e =
        let had = has v i (ap (λ (ts : List Target). slice_get ts k) (sym is) ∙ at) e in
        subst Agrees (one_change (stored_to (value.Bool (flag q k)) i) changes)
        (stays changes v i (value.Bool (flag q k)) e had.stored h)

  -- so are several
  again : (changes : Changes) (n from : ℕ) → ((j : ℕ) → from ≤ j → j < from + n → HasQ plant p slots j (flag q j))
      → Agrees (with_changes (outputs plant p q 0 (take from targets)) changes)
      → Agrees (with_changes (outputs plant p q 0 (take (from + n) targets)) changes)
  again changes zero from has h =
      let here : from ≡ from + 0 = omega arith in
      subst (λ (k : ℕ). Agrees (with_changes (outputs plant p q 0 (take k targets)) changes)) here h
  again changes (suc n) from has h =
      let k : ℕ = from + n in
      let before = again changes n from (λ j a b. has j a (omega (arith, b))) h in
      let next : k + 1 ≡ from + suc n = omega arith in
      subst (λ (m : ℕ). Agrees (with_changes (outputs plant p q 0 (take m targets)) changes)) next
      (elim (cases_lt k (length targets)) as (λ _. Agrees (with_changes (outputs plant p q 0 (take (k + 1) targets)) changes)) [
        | inl lt ↦
            let target = some_target targets k lt in
            subst Agrees (sym (outputs_after plant p q targets k target.0 changes target.1))
            (one_again (with_changes (outputs plant p q 0 (take k targets)) changes) k target.0 target.1
            (has k (omega arith) (omega arith)) before)
        | inr past ↦
            let same : take k targets ≡ take (k + 1) targets =
            take_all k targets past ∙ sym (take_all (k + 1) targets (omega (arith, past))) in
            subst (λ (ts : List Target). Agrees (with_changes (outputs plant p q 0 ts) changes)) same before
      ])

-- ---- one after the other

module _ (plant : PlantData) (changes : Changes) (p : ProgId) (q : List Bool) (holds : Bool) (targets : List Target)
    (is : targets ≡ actions_of (chart_of plant p)) where
  -- those that have it already are passed over
  pub passed : (slots : List Slot) (given : List Bool) (Agrees : Changes → Type 0) (from to : ℕ) → StoresAgain plant p slots Agrees
      → from ≤ to → ((j : ℕ) → from ≤ j → j < to → (holds ≡ true) × (flag given j ≡ flag q j))
      → AssignedTo plant changes p q holds targets from slots given Agrees → AssignedTo plant changes p q holds targets to slots given Agrees
  passed slots given Agrees from to stays le same h =
      let has : (j : ℕ) → from ≤ j → j < to → HasQ plant p slots j (flag q j) =
      λ j a b. (let s = same j a b in subst (λ (x : Bool). HasQ plant p slots j x) s.1 (h.rest s.0 j a)) in
      let all : from + (to - from) ≡ to = omega (arith, le) in
      record {
        agrees =
            subst (λ (k : ℕ). Agrees (with_changes (outputs plant p q 0 (take k targets)) changes)) all
            (again plant p q targets is slots Agrees stays changes (to - from) from (λ j a b. has j a (omega (arith, b, le))) h.agrees);
        done = λ a below.
            elim (cases_lt a from) as (λ _. HasQ plant p slots a (flag q a)) [
              | inl before ↦ h.done a before
              | inr ge ↦ has a ge below
            ];
        rest = λ on a ge. h.rest on a (omega (arith, le, ge));
      }

  -- one more is given its Q
  gave : (old new : List Slot) (given : List Bool) (Old New : Changes → Type 0) (a : ℕ) (target : Target) → slice_get targets a ≡ Some target
      → New (with_changes (output plant p target (flag q a)) (with_changes (outputs plant p q 0 (take a targets)) changes))
      → ((v : Variable) (i : ℕ) → target ≡ Boolean v → number_of plant p v ≡ Some i → IsAssigned (slot_at new i) (flag q a))
      → ((i : ℕ) → ((v : Variable) → target ≡ Boolean v → number_of plant p v ≢ Some i) → Stays (slot_at old i) (slot_at new i))
      → AssignedTo plant changes p q holds targets a old given Old → AssignedTo plant changes p q holds targets (a + 1) new given New
  gave old new given Old New a target at agrees here others h = record {
    agrees = subst New (sym (outputs_after plant p q targets a target changes at)) agrees;
    done = λ b below.
        elim (eqb_tells b a) as (λ _. HasQ plant p new b (flag q b)) [
          | inl w ↦ subst (λ (k : ℕ). HasQ plant p new k (flag q k)) (sym w.1) (has_now target at here)
          | inr w ↦ still target at others b w.1 (flag q b) (h.done b (omega (arith, below, w.1)))
        ];
    rest = λ on b ge. still target at others b (λ e. absurd (omega (arith, e, ge))) (flag given b) (h.rest on b (omega (arith, ge)));
  }
    where
      at_actions : (t : Target) → slice_get targets a ≡ Some t → slice_get (actions_of (chart_of plant p)) a ≡ Some t
      at_actions t e = ap (λ (ts : List Target). slice_get ts a) (sym is) ∙ e

      has_now : (t : Target) → slice_get targets a ≡ Some t
          → ((v : Variable) (i : ℕ) → t ≡ Boolean v → number_of plant p v ≡ Some i → IsAssigned (slot_at new i) (flag q a))
          → HasQ plant p new a (flag q a)
      has_now (Boolean v) e memo_here =
          here_has plant p old new a v (at_actions (Boolean v) e) (flag q a) (λ i number. memo_here v i refl number)
      has_now (Declared id) e memo_here = λ v i found number. absurd (let other = at_actions (Declared id) e in cc)

      still : (t : Target) → slice_get targets a ≡ Some t
          → ((i : ℕ) → ((v : Variable) → t ≡ Boolean v → number_of plant p v ≢ Some i) → Stays (slot_at old i) (slot_at new i))
          → (b : ℕ) → b ≢ a → (x : Bool) → HasQ plant p old b x → HasQ plant p new b x
      still (Boolean v) e stay b ne x had =
          others_have plant p old new a v (at_actions (Boolean v) e)
          (λ i none. stay i (λ w same. subst (λ (u : Variable). number_of plant p u ≢ Some i) (same_action v w same) none)) b ne x had
      still (Declared id) e stay b ne x had = λ w i found number.
          let before = had w i found number in
          let s = stay i (λ v same. absurd cc) in
          record { stored = s.stored ∙ before.stored; output = s.output before.output }

  -- and that is noted
  noted : (slots : List Slot) (before after : List Bool) (Old New : Changes → Type 0) (a : ℕ) (x : Bool)
      → (holds ≡ true → length targets ≤ length before)
      → ((b : ℕ) → b < length before → flag after b ≡ cond (b == a) x (flag before b))
      → ((t : Changes) → Old t → New t)
      → AssignedTo plant changes p q holds targets (a + 1) slots before Old → AssignedTo plant changes p q holds targets (a + 1) slots after New
  noted slots before after Old New a x capacity flags goes_on h = record {
    agrees = goes_on (with_changes (outputs plant p q 0 (take (a + 1) targets)) changes) h.agrees;
    done = h.done;
    rest = λ on b ge v i at number.
        let within : b < length targets =
        slice_get_within targets b (Boolean v) (ap (λ (ts : List Target). slice_get ts b) is ∙ at) in
        let fits = capacity on in
        let same : flag after b ≡ flag before b =
        flags b (omega (arith, within, fits))
        ∙ ap (λ (c : Bool). cond c x (flag before b)) (other_numbers' b a (λ e. absurd (omega (arith, e, ge)))) in
        subst (λ (y : Bool). IsAssigned (slot_at slots i) y) (sym same) (h.rest on b ge v i at number);
  }
    where
      other_numbers' : (k i : ℕ) → k ≢ i → (k == i) ≡ false
      other_numbers' k i ne =
          elim (eqb_tells k i) as (λ _. (k == i) ≡ false) [ inl w ↦ absurd (ne w.1) | inr w ↦ w.0 ]

  -- both at once
  pub given : (old new : List Slot) (before after : List Bool) (Old Between New : Changes → Type 0) (a : ℕ) (target : Target) (x : Bool)
      → x ≡ flag q a → slice_get targets a ≡ Some target
      → ((t : Changes) → Old t → Between (with_changes (output plant p target x) t))
      → ((t : Changes) (v : Variable) (i : ℕ) → Old t → target ≡ Boolean v → number_of plant p v ≡ Some i → IsAssigned (slot_at new i) x)
      → ((t : Changes) (i : ℕ) → Old t → ((v : Variable) → target ≡ Boolean v → number_of plant p v ≢ Some i)
      → Stays (slot_at old i) (slot_at new i))
      → (holds ≡ true → length targets ≤ length before)
      → ((b : ℕ) → b < length before → flag after b ≡ cond (b == a) x (flag before b))
      → ((t : Changes) → Between t → New t)
      → AssignedTo plant changes p q holds targets a old before Old → AssignedTo plant changes p q holds targets (a + 1) new after New
  given old new before after Old Between New a target x value at agrees here others capacity flags goes_on h =
      let log : Changes = with_changes (outputs plant p q 0 (take a targets)) changes in
      noted new before after Between New a x capacity flags goes_on
      (gave old new before Old Between a target at
      (subst (λ (b : Bool). Between (with_changes (output plant p target b) log)) value (agrees log h.agrees))
      (λ v i same number. subst (λ (b : Bool). IsAssigned (slot_at new i) b) value (here log v i h.agrees same number))
      (λ i none. others log i h.agrees none) h)

  -- what was given holds, so the variable is an output already
  pub gave_again : (old new : List Slot) (before : List Bool) (Old New : Changes → Type 0) (a : ℕ) (target : Target) (x : Bool)
      → holds ≡ true → x ≡ flag q a → slice_get targets a ≡ Some target
      → ((t : Changes) → Old t → New (with_changes (output plant p target x) t))
      → ((v : Variable) (i : ℕ) → target ≡ Boolean v → number_of plant p v ≡ Some i → (slot_at old i).is_output ≡ true
      → IsAssigned (slot_at new i) x)
      → ((i : ℕ) → ((v : Variable) → target ≡ Boolean v → number_of plant p v ≢ Some i) → Stays (slot_at old i) (slot_at new i))
      → AssignedTo plant changes p q holds targets a old before Old → AssignedTo plant changes p q holds targets (a + 1) new before New
  gave_again old new before Old New a target x on value at agrees here others h =
      gave old new before Old New a target at
      (subst (λ (b : Bool). New (with_changes (output plant p target b) (with_changes (outputs plant p q 0 (take a targets)) changes))) value
      (agrees (with_changes (outputs plant p q 0 (take a targets)) changes) h.agrees))
      (λ v i same number. subst (λ (b : Bool). IsAssigned (slot_at new i) b) value
      (here v i same number
      (h.rest on a (omega arith) v i
      (ap (λ (ts : List Target). slice_get ts a) (sym is) ∙ at ∙ ap (λ (w : Target). Some w) same) number).output))
      others h

  -- what was given to the others alone counts
  pub noted_again : (slots : List Slot) (before after : List Bool) (Agrees : Changes → Type 0) (from : ℕ)
      → ((a : ℕ) → from ≤ a → flag after a ≡ flag before a)
      → AssignedTo plant changes p q holds targets from slots before Agrees → AssignedTo plant changes p q holds targets from slots after Agrees
  noted_again slots before after Agrees from same h = record {
    agrees = h.agrees;
    done = h.done;
    rest = λ on a ge. subst (λ (x : Bool). HasQ plant p slots a x) (sym (same a ge)) (h.rest on a ge);
  }

  -- before the first, and after the last
  pub none_assigned : (slots : List Slot) (given : List Bool) (Agrees : Changes → Type 0) → Agrees changes
      → ((a : ℕ) → holds ≡ true → HasQ plant p slots a (flag given a))
      → AssignedTo plant changes p q holds targets 0 slots given Agrees
  none_assigned slots given Agrees h all = record {
    agrees = subst Agrees (sym (no_change changes)) h;
    done = λ a lt. absurd (omega (arith, lt));
    rest = λ on a le. all a on;
  }

  pub all_assigned : (slots : List Slot) (given : List Bool) (Agrees : Changes → Type 0) (from : ℕ) → StoresAgain plant p slots Agrees
      → from ≤ length targets → ((j : ℕ) → from ≤ j → j < length targets → (holds ≡ true) × (flag given j ≡ flag q j))
      → AssignedTo plant changes p q holds targets from slots given Agrees → Agrees (with_changes (outputs plant p q 0 targets) changes)
  all_assigned slots given Agrees from stays fits same h =
      subst (λ (xs : List Target). Agrees (with_changes (outputs plant p q 0 xs) changes))
      (take_all (length targets) targets (omega arith))
      (passed slots given Agrees from (length targets) stays fits same h).agrees

  pub all_given : (slots : List Slot) (given : List Bool) (Agrees : Changes → Type 0) (from : ℕ) → length targets ≤ from
      → AssignedTo plant changes p q holds targets from slots given Agrees → Agrees (with_changes (outputs plant p q 0 targets) changes)
  all_given slots given Agrees from past h =
      subst (λ (xs : List Target). Agrees (with_changes (outputs plant p q 0 xs) changes)) (take_all from targets past) h.agrees

  -- each variable has what was noted of it
  pub all_noted : (slots : List Slot) (given : List Bool) (Agrees : Changes → Type 0) (from : ℕ) → length q ≡ length targets
      → ((a : ℕ) → a < from → a < length given → flag given a ≡ flag q a)
      → ((j : ℕ) → from ≤ j → j < length targets → (holds ≡ true) × (flag given j ≡ flag q j))
      → AssignedTo plant changes p q holds targets from slots given Agrees → length given ≡ length q
      → (a : ℕ) → HasQ plant p slots a (flag given a)
  all_noted slots given Agrees from sized before same h long a v i at number =
      elim (cases_lt a from) as (λ _. IsAssigned (slot_at slots i) (flag given a)) [
        | inl lt ↦
            subst (λ (x : Bool). IsAssigned (slot_at slots i) x)
            (sym (before a lt (omega (arith, within a v at, long, sized)))) (h.done a lt v i at number)
        | inr ge ↦ h.rest (same a ge (within a v at)).0 a ge v i at number
      ]
    where
      within : (a : ℕ) (v : Variable) → slice_get (actions_of (chart_of plant p)) a ≡ Some (Boolean v) → a < length targets
      within a v at = slice_get_within targets a (Boolean v) (ap (λ (ts : List Target). slice_get ts a) is ∙ at)

  pub all_kept : (slots : List Slot) (given : List Bool) (Agrees : Changes → Type 0) (from : ℕ) → holds ≡ true
      → ((a : ℕ) → flag given a ≡ flag q a) → AssignedTo plant changes p q holds targets from slots given Agrees
      → (a : ℕ) → HasQ plant p slots a (flag given a)
  all_kept slots given Agrees from on same h a =
      elim (cases_lt a from) as (λ _. HasQ plant p slots a (flag given a)) [
        | inl lt ↦ subst (λ (x : Bool). HasQ plant p slots a x) (sym (same a)) (h.done a lt)
        | inr ge ↦ h.rest on a ge
      ]

-- one more is noted
pub noted_one : (q : List Bool) (a from : ℕ) (first old new : List Bool) (x : Bool) → old ≡ first → x ≡ flag q a
    → length new ≡ length old
    → ((b : ℕ) → b < length old → flag new b ≡ cond (b == a) x (flag old b))
    → ((b : ℕ) → b < from → b < length first → flag first b ≡ flag q b)
    → ((j : ℕ) → from ≤ j → j < a → flag first j ≡ flag q j)
    → (b : ℕ) → b < a + 1 → b < length new → flag new b ≡ flag q b
noted_one q a from first old new x is value long flags before between b lt fits =
    let within : b < length old = omega (arith, fits, long) in
    elim (eqb_tells b a) as (λ _. flag new b ≡ flag q b) [
      | inl w ↦
          flags b within ∙ ap (λ (c : Bool). cond c x (flag old b)) w.0 ∙ value ∙ ap (λ (k : ℕ). flag q k) (sym w.1)
      | inr w ↦
          flags b within ∙ ap (λ (c : Bool). cond c x (flag old b)) w.0 ∙ ap (λ (g : List Bool). flag g b) is
          ∙ elim (cases_lt b from) as (λ _. flag first b ≡ flag q b) [
            | inl below ↦ before b below (omega (arith, within, ap (λ (g : List Bool). length g) is))
            | inr ge ↦ between b ge (omega (arith, lt, w.1))
          ]
    ]
