-- Work from word to word, where rows tell what each action has; and rows past the last action.
use Rattle.std.proofs.Common.{◌≡◌, ℕ, ◌≤◌, false, ◌∙◌, ap, sym, refl, inl, inr}
use Rattle.std.specs.Prelude.{replicate}
use Rattle.std.specs.Int.{div_ceil}
use Rattle.std.proofs.lemmas.Bool.{cases_lt}
use Rattle.std.proofs.lemmas.List.{get_or-replicate, length-replicate}
use Rattle.sfc_flags.specs.Flags.{flag}
use Rattle.sfc_flags.specs.Words.{AreDone}
use Rattle.sfc_flags.proofs.Wordwise.{all_done, past, same_flags}
use Rattle.sfc_action.specs.declared.timed.Timed.{Timed}
use Rattle.sfc_action.specs.declared.stores.Stores.{Stores}
use Rattle.sfc_action.specs.declared.inputs.Inputs.{Inputs}
use Rattle.sfc_action.specs.declared.kept.Kept.{Kept}
use Rattle.sfc_action.specs.declared.control_scan.ControlScan.{ControlScan}
use Rattle.sfc_action.specs.declared.control_state.ControlState.{ControlState}
use Rattle.sfc_action.specs.Private.TimedSets.{AreAll, none}
use Rattle.sfc_action.specs.Private.Storing.{AreStores, no_stores, IsKept, none_kept}
use Rattle.sfc_action.specs.Private.Marking.{AreSized, cleared}
use Rattle.sfc_action.specs.Private.ControlScans.{IsControlScan}
use Rattle.sfc_action.specs.Private.Keeping.{IsStateSized}
use Rattle.sfc_action.specs.Private.Rows.{timed_row, store_row, input_row, kept_row, state_row, no_times, no_store, no_inputs, nothing_kept, nothing}
use Rattle.sfc_action.specs.Private.Rows.{state_row_after, state_after, stores_after}
use Rattle.sfc_action.proofs.Sizes.{all_none, are_sized}

-- ---- past the last action

module _ (n a : ℕ) (le : n ≤ a) where
  pub timed_past : (sets : Timed) → AreAll n sets → timed_row sets a ≡ no_times
  timed_past sets h = λ i. record {
    limited = past n a sets.limited h.limited le i;
    delayed = past n a sets.delayed h.delayed le i;
    stored_delayed = past n a sets.stored_delayed h.stored_delayed le i;
    delayed_stored = past n a sets.delayed_stored h.delayed_stored le i;
    stored_limited = past n a sets.stored_limited h.stored_limited le i;
  }

  pub stores_past : (stores : Stores) → AreStores n stores → store_row stores a ≡ no_store
  stores_past stores h = λ i. record {
    set = past n a stores.set h.set le i;
    stored_delayed = past n a stores.stored_delayed h.stored_delayed le i;
    stored_limited = past n a stores.stored_limited h.stored_limited le i;
  }

  pub inputs_past : (inputs : Inputs) → AreSized n inputs → input_row inputs a ≡ no_inputs
  inputs_past inputs h = λ i. record {
    non_stored = past n a inputs.non_stored h.non_stored le i;
    reset = past n a inputs.reset h.reset le i;
    set = past n a inputs.set h.set le i;
    pulse = past n a inputs.pulse h.pulse le i;
    rising_pulse = past n a inputs.rising_pulse h.rising_pulse le i;
    falling_pulse = past n a inputs.falling_pulse h.falling_pulse le i;
    timed = timed_past inputs.timed h.timed i;
    any_time = past n a inputs.any_time h.any_time le i;
    more_times = past n a inputs.more_times h.more_times le i;
  }

  pub kept_past : (kept : Kept) → IsKept n kept → kept_row kept a ≡ nothing_kept
  kept_past kept h = λ i. record {
    pulse = past n a kept.pulse h.pulse le i;
    rising_pulse = past n a kept.rising_pulse h.rising_pulse le i;
    falling_pulse = past n a kept.falling_pulse h.falling_pulse le i;
    stores = stores_past kept.stores h.stores i;
    delayed_stored = past n a kept.delayed_stored h.delayed_stored le i;
  }

  pub state_past : (state : ControlState) → IsStateSized n state → state_row state a ≡ nothing
  state_past state h = λ i. record {
    kept = kept_past state.kept h.kept i;
    q = past n a state.q h.q le i;
    executed = past n a state.executed h.executed le i;
  }

  pub stores_after_past : (inputs : Inputs) (stores : Stores) → AreSized n inputs → AreStores n stores
      → stores_after (input_row inputs a) (store_row stores a) ≡ no_store
  stores_after_past inputs stores i s = λ j. stores_after (inputs_past inputs i j) (stores_past stores s j)

  -- what a scan makes of nothing is nothing
  pub after_past : (control_scan : ControlScan) (state : ControlState) → IsControlScan n control_scan → IsStateSized n state
      → state_row_after control_scan (state_row state) a ≡ nothing
  after_past control_scan state s k = λ j.
      state_after (inputs_past control_scan.inputs s.inputs j) (stores_past control_scan.stores s.stores j)
      (timed_past control_scan.elapsed s.elapsed j) (state_past state k j)

-- ---- tables with the same rows are the same

module _ (n : ℕ) where
  pub same_timed : (x y : Timed) → AreAll n x → AreAll n y → ((a : ℕ) → timed_row x a ≡ timed_row y a) → x ≡ y
  same_timed x y hx hy each = λ i. record {
    limited = same_flags n x.limited y.limited hx.limited hy.limited (λ a. ap (λ r. r.limited) (each a)) i;
    delayed = same_flags n x.delayed y.delayed hx.delayed hy.delayed (λ a. ap (λ r. r.delayed) (each a)) i;
    stored_delayed = same_flags n x.stored_delayed y.stored_delayed hx.stored_delayed hy.stored_delayed (λ a. ap (λ r. r.stored_delayed) (each a)) i;
    delayed_stored = same_flags n x.delayed_stored y.delayed_stored hx.delayed_stored hy.delayed_stored (λ a. ap (λ r. r.delayed_stored) (each a)) i;
    stored_limited = same_flags n x.stored_limited y.stored_limited hx.stored_limited hy.stored_limited (λ a. ap (λ r. r.stored_limited) (each a)) i;
  }

  pub same_stores : (x y : Stores) → AreStores n x → AreStores n y → ((a : ℕ) → store_row x a ≡ store_row y a) → x ≡ y
  same_stores x y hx hy each = λ i. record {
    set = same_flags n x.set y.set hx.set hy.set (λ a. ap (λ r. r.set) (each a)) i;
    stored_delayed = same_flags n x.stored_delayed y.stored_delayed hx.stored_delayed hy.stored_delayed (λ a. ap (λ r. r.stored_delayed) (each a)) i;
    stored_limited = same_flags n x.stored_limited y.stored_limited hx.stored_limited hy.stored_limited (λ a. ap (λ r. r.stored_limited) (each a)) i;
  }

  pub same_kept : (x y : Kept) → IsKept n x → IsKept n y → ((a : ℕ) → kept_row x a ≡ kept_row y a) → x ≡ y
  same_kept x y hx hy each = λ i. record {
    pulse = same_flags n x.pulse y.pulse hx.pulse hy.pulse (λ a. ap (λ r. r.pulse) (each a)) i;
    rising_pulse = same_flags n x.rising_pulse y.rising_pulse hx.rising_pulse hy.rising_pulse (λ a. ap (λ r. r.rising_pulse) (each a)) i;
    falling_pulse = same_flags n x.falling_pulse y.falling_pulse hx.falling_pulse hy.falling_pulse (λ a. ap (λ r. r.falling_pulse) (each a)) i;
    stores = same_stores x.stores y.stores hx.stores hy.stores (λ a. ap (λ r. r.stores) (each a)) i;
    delayed_stored = same_flags n x.delayed_stored y.delayed_stored hx.delayed_stored hy.delayed_stored (λ a. ap (λ r. r.delayed_stored) (each a)) i;
  }

  pub same_inputs : (x y : Inputs) → AreSized n x → AreSized n y → ((a : ℕ) → input_row x a ≡ input_row y a) → x ≡ y
  same_inputs x y hx hy each = λ i. record {
    non_stored = same_flags n x.non_stored y.non_stored hx.non_stored hy.non_stored (λ a. ap (λ r. r.non_stored) (each a)) i;
    reset = same_flags n x.reset y.reset hx.reset hy.reset (λ a. ap (λ r. r.reset) (each a)) i;
    set = same_flags n x.set y.set hx.set hy.set (λ a. ap (λ r. r.set) (each a)) i;
    pulse = same_flags n x.pulse y.pulse hx.pulse hy.pulse (λ a. ap (λ r. r.pulse) (each a)) i;
    rising_pulse = same_flags n x.rising_pulse y.rising_pulse hx.rising_pulse hy.rising_pulse (λ a. ap (λ r. r.rising_pulse) (each a)) i;
    falling_pulse = same_flags n x.falling_pulse y.falling_pulse hx.falling_pulse hy.falling_pulse (λ a. ap (λ r. r.falling_pulse) (each a)) i;
    timed = same_timed x.timed y.timed hx.timed hy.timed (λ a. ap (λ r. r.timed) (each a)) i;
    any_time = same_flags n x.any_time y.any_time hx.any_time hy.any_time (λ a. ap (λ r. r.any_time) (each a)) i;
    more_times = same_flags n x.more_times y.more_times hx.more_times hy.more_times (λ a. ap (λ r. r.more_times) (each a)) i;
  }

  no_flag : (a : ℕ) → flag (replicate n false) a ≡ false
  no_flag a = elim (cases_lt a n) [
    | inl lt ↦ get_or-replicate n a false false lt
    | inr ge ↦ past n a (replicate n false) (length-replicate n false) ge
  ]

  pub none_rows : (a : ℕ) → timed_row (none n) a ≡ no_times
  none_rows a = λ i. record { limited = no_flag a i; delayed = no_flag a i; stored_delayed = no_flag a i; delayed_stored = no_flag a i; stored_limited = no_flag a i }

  pub no_store_rows : (a : ℕ) → store_row (no_stores n) a ≡ no_store
  no_store_rows a = λ i. record { set = no_flag a i; stored_delayed = no_flag a i; stored_limited = no_flag a i }

  pub none_kept_rows : (a : ℕ) → kept_row (none_kept n) a ≡ nothing_kept
  none_kept_rows a = λ i. record {
    pulse = no_flag a i;
    rising_pulse = no_flag a i;
    falling_pulse = no_flag a i;
    stores = no_store_rows a i;
    delayed_stored = no_flag a i;
  }

  pub cleared_rows : (a : ℕ) → input_row (cleared n) a ≡ no_inputs
  cleared_rows a = λ i. record {
    non_stored = no_flag a i;
    reset = no_flag a i;
    set = no_flag a i;
    pulse = no_flag a i;
    rising_pulse = no_flag a i;
    falling_pulse = no_flag a i;
    timed = none_rows a i;
    any_time = no_flag a i;
    more_times = no_flag a i;
  }

  pub is_none : (old : ℕ → _) (x : Timed) (k : ℕ) → AreAll n x → div_ceil n 64 ≤ k → AreDone k (λ a. no_times) old (timed_row x) → x ≡ none n
  is_none old x k h le so_far =
      same_timed x (none n) h (all_none n)
      (λ a. all_done (λ b. no_times) old n k (timed_row x) le so_far (λ b ge. timed_past n b ge x h) a ∙ sym (none_rows a))

  pub is_cleared : (old : ℕ → _) (x : Inputs) (k : ℕ) → AreSized n x → div_ceil n 64 ≤ k → AreDone k (λ a. no_inputs) old (input_row x) → x ≡ cleared n
  is_cleared old x k h le so_far =
      same_inputs x (cleared n) h (are_sized n (cleared n) refl)
      (λ a. all_done (λ b. no_inputs) old n k (input_row x) le so_far (λ b ge. inputs_past n b ge x h) a ∙ sym (cleared_rows a))
