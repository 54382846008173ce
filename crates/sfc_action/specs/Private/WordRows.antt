-- Flags of one action, taken out of words.
use Rattle.std.specs.Prelude.{ℕ, Bool, false}
use Rattle.sfc_flags.specs.Words.{has}
use Rattle.sfc_action.specs.declared.timed_words.TimedWords.{TimedWords}
use Rattle.sfc_action.specs.declared.store_words.StoreWords.{StoreWords}
use Rattle.sfc_action.specs.declared.plain_words.PlainWords.{PlainWords}
use Rattle.sfc_action.specs.declared.input_words.InputWords.{InputWords}
use Rattle.sfc_action.specs.declared.kept_words.KeptWords.{KeptWords}
use Rattle.sfc_action.specs.declared.state_words.StateWords.{StateWords}

-- by the qualifiers with a time
pub record TimedRow : Type 0 where
  pub limited : Bool
  pub delayed : Bool
  pub stored_delayed : Bool
  pub delayed_stored : Bool
  pub stored_limited : Bool

-- its flip-flops
pub record StoreRow : Type 0 where
  pub set : Bool
  pub stored_delayed : Bool
  pub stored_limited : Bool

-- inputs without a time
pub record PlainRow : Type 0 where
  pub non_stored : Bool
  pub reset : Bool
  pub set : Bool
  pub pulse : Bool
  pub rising_pulse : Bool
  pub falling_pulse : Bool

-- its inputs in a scan
pub record InputRow : Type 0 where
  pub non_stored : Bool
  pub reset : Bool
  pub set : Bool
  pub pulse : Bool
  pub rising_pulse : Bool
  pub falling_pulse : Bool
  pub timed : TimedRow
  pub any_time : Bool
  pub more_times : Bool

-- its inputs P, P1 and P0 of the newest scan, and its flip-flops
pub record KeptRow : Type 0 where
  pub pulse : Bool
  pub rising_pulse : Bool
  pub falling_pulse : Bool
  pub stores : StoreRow
  pub delayed_stored : Bool

-- its state from scan to scan
pub record StateRow : Type 0 where
  pub kept : KeptRow
  pub q : Bool
  pub executed : Bool

-- ---- of action a, in words

abbrev pub timed_in : TimedWords → ℕ → TimedRow
timed_in words a = record {
  limited = has words.limited a;
  delayed = has words.delayed a;
  stored_delayed = has words.stored_delayed a;
  delayed_stored = has words.delayed_stored a;
  stored_limited = has words.stored_limited a;
}

abbrev pub stores_in : StoreWords → ℕ → StoreRow
stores_in words a = record {
  set = has words.set a;
  stored_delayed = has words.stored_delayed a;
  stored_limited = has words.stored_limited a;
}

abbrev pub plain_in : PlainWords → ℕ → PlainRow
plain_in words a = record {
  non_stored = has words.non_stored a;
  reset = has words.reset a;
  set = has words.set a;
  pulse = has words.pulse a;
  rising_pulse = has words.rising_pulse a;
  falling_pulse = has words.falling_pulse a;
}

abbrev pub inputs_in : InputWords → ℕ → InputRow
inputs_in words a = record {
  non_stored = has words.plain.non_stored a;
  reset = has words.plain.reset a;
  set = has words.plain.set a;
  pulse = has words.plain.pulse a;
  rising_pulse = has words.plain.rising_pulse a;
  falling_pulse = has words.plain.falling_pulse a;
  timed = timed_in words.timed a;
  any_time = has words.any_time a;
  more_times = has words.more_times a;
}

abbrev pub kept_in : KeptWords → ℕ → KeptRow
kept_in words a = record {
  pulse = has words.pulse a;
  rising_pulse = has words.rising_pulse a;
  falling_pulse = has words.falling_pulse a;
  stores = stores_in words.stores a;
  delayed_stored = has words.delayed_stored a;
}

abbrev pub state_in : StateWords → ℕ → StateRow
state_in words a = record {
  kept = kept_in words.kept a;
  q = has words.q a;
  executed = has words.executed a;
}

-- ---- without a flag

abbrev pub no_times : TimedRow
no_times = record { limited = false; delayed = false; stored_delayed = false; delayed_stored = false; stored_limited = false }

abbrev pub no_store : StoreRow
no_store = record { set = false; stored_delayed = false; stored_limited = false }

abbrev pub no_plain : PlainRow
no_plain = record { non_stored = false; reset = false; set = false; pulse = false; rising_pulse = false; falling_pulse = false }

abbrev pub no_inputs : InputRow
no_inputs = record {
  non_stored = false;
  reset = false;
  set = false;
  pulse = false;
  rising_pulse = false;
  falling_pulse = false;
  timed = no_times;
  any_time = false;
  more_times = false;
}

abbrev pub nothing_kept : KeptRow
nothing_kept = record { pulse = false; rising_pulse = false; falling_pulse = false; stores = no_store; delayed_stored = false }

abbrev pub nothing : StateRow
nothing = record { kept = nothing_kept; q = false; executed = false }
