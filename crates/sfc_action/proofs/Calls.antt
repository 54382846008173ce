-- What flip-flops become, and which actions are called.
use Rattle.std.proofs.Common.{◌≡◌, ℕ, ◌≤◌, ◌<◌, Bool, true, false, ◌||◌, List, length, ap, sym, refl, ◌∙◌, None, inl, inr, arith}
use Rattle.std.proofs.lemmas.Bool.{cases_lt}
use Rattle.std.specs.Int.{div_ceil}
use Rattle.sfc_base.specs.declared.qualifier.TimedQualifier.TheVariants.{Limited, Delayed, StoredDelayed, DelayedStored, StoredLimited}
use Rattle.sfc_flags.specs.Flags.{flag}
use Rattle.sfc_flags.specs.Words.{AreDone, word_of}
use Rattle.sfc_flags.proofs.Wordwise.{all_done, past}
use Rattle.sfc_action.specs.declared.inputs.Inputs.{Inputs}
use Rattle.sfc_action.specs.declared.stores.Stores.{Stores}
use Rattle.sfc_action.specs.Private.Marking.{AreSized}
use Rattle.sfc_action.specs.Private.Storing.{AreStores, AreNext}
use Rattle.sfc_action.specs.Private.Calling.{called_of, AreCalled}
use Rattle.sfc_action.specs.Private.Rows.{StoreRow, input_row, store_row, stores_after, has_fault}
use Rattle.sfc_action.specs.Private.Failing.{fault_at}
use Rattle.sfc_action.specs.ActionControl.{fault_by}
use Rattle.sfc_action.proofs.Rows.{inputs_past, stores_past, stores_after_past}

pub or_before : (x y : Bool) → x ≡ true → (x || y) ≡ true
or_before true y e = refl
or_before false y e = absurd cc

pub or_behind : (x y : Bool) → y ≡ true → (x || y) ≡ true
or_behind true y e = refl
or_behind false y e = e

no_fault : (m x y : Bool) → ((m || x) || y) ≡ false → fault_by m x y ≡ None
no_fault true x y e = absurd (let bad : true ≡ false = e in cc)
no_fault false true y e = absurd (let bad : true ≡ false = e in cc)
no_fault false false true e = absurd (let bad : true ≡ false = e in cc)
no_fault false false false e = refl

module _ (n k : ℕ) (inputs : Inputs) (stored new : Stores) (old : ℕ → StoreRow) (enough : div_ceil n 64 ≤ k) (i : AreSized n inputs) (s : AreStores n stored) (t : AreStores n new)
    (stores : AreDone k (λ (a : ℕ). stores_after (input_row inputs a) (store_row stored a)) old (store_row new)) where
  rows : (a : ℕ) → store_row new a ≡ stores_after (input_row inputs a) (store_row stored a)
  rows = all_done (λ a. stores_after (input_row inputs a) (store_row stored a)) old n k (store_row new) enough stores
      (λ a le. stores_past n a le new t ∙ sym (stores_after_past n a le inputs stored i s))

  pub next_stores : AreNext stored inputs new
  next_stores = record {
    set = λ a. ap (λ r. r.set) (rows a);
    stored_delayed = λ a. ap (λ r. r.stored_delayed) (rows a);
    stored_limited = λ a. ap (λ r. r.stored_limited) (rows a);
  }

  -- where no action of these words has a fault, none has one
  pub faultless_at : ((a : ℕ) → word_of a < k → has_fault (input_row inputs a) (stores_after (input_row inputs a) (store_row stored a)) ≡ false)
      → (a : ℕ) → fault_at inputs new a ≡ None
  faultless_at none a =
      no_fault _ _ _ (ap (has_fault (input_row inputs a)) (rows a) ∙ elim (cases_lt a n) [
        | inl lt ↦ none a (omega (arith, enough, lt))
        | inr ge ↦ (λ j. has_fault (inputs_past n a ge inputs i j) (stores_after_past n a ge inputs stored i s j))
      ])

  module _ (called : List Bool) (was : ℕ → Bool) (size : length called ≡ n)
      (flags : AreDone k (λ (a : ℕ). called_of (input_row inputs a) (stores_after (input_row inputs a) (store_row stored a))) was (flag called)) where
    each : (a : ℕ) → flag called a ≡ called_of (input_row inputs a) (store_row new a)
    each a =
        all_done (λ b. called_of (input_row inputs b) (stores_after (input_row inputs b) (store_row stored b))) was n k (flag called) enough flags
        (λ b le. past n b called size le
        ∙ sym (λ j. called_of (inputs_past n b le inputs i j) (stores_after_past n b le inputs stored i s j))) a
        ∙ ap (called_of (input_row inputs a)) (sym (rows a))

    -- where no action of these words is called, none is
    pub uncalled_at : ((a : ℕ) → word_of a < k → called_of (input_row inputs a) (stores_after (input_row inputs a) (store_row stored a)) ≡ false)
        → (a : ℕ) → flag called a ≡ false
    uncalled_at none a = elim (cases_lt a n) [
      | inl lt ↦ (let near : word_of a < k = omega (arith, enough, lt) in flags.done a near ∙ none a near)
      | inr ge ↦ past n a called size ge
    ]

    pub are_called : AreCalled inputs new called
    are_called Limited a e =
        each a ∙ or_before _ _ (or_before _ _ (or_before _ _ (or_before _ _ e)))
    are_called Delayed a e =
        each a ∙ or_before _ _ (or_before _ _ (or_before _ _ (or_behind (flag inputs.timed.limited a) _ e)))
    are_called DelayedStored a e =
        each a ∙ or_before _ _ (or_before _ _ (or_behind (flag inputs.timed.limited a || flag inputs.timed.delayed a) _ e))
    are_called StoredDelayed a e =
        each a ∙ or_before _ _ (or_behind (flag inputs.timed.limited a || flag inputs.timed.delayed a || flag inputs.timed.delayed_stored a) _ e)
    are_called StoredLimited a e =
        each a ∙ or_behind (flag inputs.timed.limited a || flag inputs.timed.delayed a || flag inputs.timed.delayed_stored a
        || flag new.stored_delayed a) _ e
