-- Flags of one action, taken out of the tables of all.
pub use Rattle.sfc_action.specs.Private.WordRows.{TimedRow, StoreRow, PlainRow, InputRow, KeptRow, StateRow}
pub use Rattle.sfc_action.specs.Private.WordRows.{timed_in, stores_in, plain_in, inputs_in, kept_in, state_in}
pub use Rattle.sfc_action.specs.Private.WordRows.{no_times, no_store, no_plain, no_inputs, nothing_kept, nothing}
use Rattle.std.specs.Prelude.{ℕ, Bool, not, ◌&&◌, ◌||◌}
use Rattle.sfc_flags.specs.Flags.{flag}
use Rattle.sfc_action.specs.declared.timed.Timed.{Timed}
use Rattle.sfc_action.specs.declared.stores.Stores.{Stores}
use Rattle.sfc_action.specs.declared.inputs.Inputs.{Inputs}
use Rattle.sfc_action.specs.declared.kept.Kept.{Kept}
use Rattle.sfc_action.specs.declared.control_scan.ControlScan.{ControlScan}
use Rattle.sfc_action.specs.declared.control_state.ControlState.{ControlState}

-- ---- of action a

abbrev pub timed_row : Timed → ℕ → TimedRow
timed_row sets a = record {
  limited = flag sets.limited a;
  delayed = flag sets.delayed a;
  stored_delayed = flag sets.stored_delayed a;
  delayed_stored = flag sets.delayed_stored a;
  stored_limited = flag sets.stored_limited a;
}

abbrev pub store_row : Stores → ℕ → StoreRow
store_row stores a = record {
  set = flag stores.set a;
  stored_delayed = flag stores.stored_delayed a;
  stored_limited = flag stores.stored_limited a;
}

abbrev pub input_row : Inputs → ℕ → InputRow
input_row inputs a = record {
  non_stored = flag inputs.non_stored a;
  reset = flag inputs.reset a;
  set = flag inputs.set a;
  pulse = flag inputs.pulse a;
  rising_pulse = flag inputs.rising_pulse a;
  falling_pulse = flag inputs.falling_pulse a;
  timed = timed_row inputs.timed a;
  any_time = flag inputs.any_time a;
  more_times = flag inputs.more_times a;
}

abbrev pub kept_row : Kept → ℕ → KeptRow
kept_row kept a = record {
  pulse = flag kept.pulse a;
  rising_pulse = flag kept.rising_pulse a;
  falling_pulse = flag kept.falling_pulse a;
  stores = store_row kept.stores a;
  delayed_stored = flag kept.delayed_stored a;
}

abbrev pub state_row : ControlState → ℕ → StateRow
state_row state a = record {
  kept = kept_row state.kept a;
  q = flag state.q a;
  executed = flag state.executed a;
}

-- ---- what a scan makes of an action

-- a flip-flop, reset-dominant
abbrev pub stored_after : Bool → Bool → Bool → Bool
stored_after stored sets resets = (stored || sets) && not resets

abbrev pub stores_after : InputRow → StoreRow → StoreRow
stores_after i s = record {
  set = stored_after s.set i.set i.reset;
  stored_delayed = stored_after s.stored_delayed i.timed.stored_delayed i.reset;
  stored_limited = stored_after s.stored_limited i.timed.stored_limited i.reset;
}

-- Q with these inputs, flip-flops and elapsed on-delays, after an input P, and where that of DS is stored
abbrev pub q_of : InputRow → StoreRow → TimedRow → Bool → Bool → Bool
q_of i s e pulse delayed_stored = not i.reset && (
    i.non_stored
    || s.set
    || (i.timed.limited && not e.limited)
    || e.delayed
    || (i.pulse && not pulse)
    || e.stored_delayed
    || delayed_stored
    || (s.stored_limited && not e.stored_limited))

-- whether it is executed, where it had `was` and has `q`
abbrev pub executed_of : InputRow → StateRow → Bool → Bool
executed_of i was q =
    ((was.q || q) || (i.rising_pulse && not was.kept.rising_pulse)) || (was.kept.falling_pulse && not i.falling_pulse)

abbrev pub state_after : InputRow → StoreRow → TimedRow → StateRow → StateRow
state_after i s e was =
    let stored = stored_after was.kept.delayed_stored e.delayed_stored i.reset in
    let q = q_of i s e was.kept.pulse stored in
    record {
      kept = record {
        pulse = i.pulse;
        rising_pulse = i.rising_pulse;
        falling_pulse = i.falling_pulse;
        stores = s;
        delayed_stored = stored;
      };
      q = q;
      executed = executed_of i was q;
    }

-- of action a, with what the control scan has of it
abbrev pub state_row_after : ControlScan → (ℕ → StateRow) → ℕ → StateRow
state_row_after control_scan was a =
    state_after (input_row control_scan.inputs a) (store_row control_scan.stores a) (timed_row control_scan.elapsed a) (was a)

-- whether one of the faults is there
abbrev pub has_fault : InputRow → StoreRow → Bool
has_fault i s = (i.more_times || (i.timed.stored_delayed && s.stored_limited)) || (i.timed.stored_limited && s.stored_delayed)
