-- Flip-flops of actions, and what else is kept from scan to scan.
use Rattle.std.specs.Prelude.{ℕ, ◌≡◌, Bool, false, not, ◌&&◌, ◌||◌, List, length, replicate}
use Rattle.sfc_flags.specs.Flags.{flag}
use Rattle.sfc_action.specs.declared.inputs.Inputs.{Inputs}
use Rattle.sfc_action.specs.declared.stores.Stores.{Stores}
use Rattle.sfc_action.specs.declared.kept.Kept.{Kept}

-- each is a table of n actions
pub record AreStores (n : ℕ) (stores : Stores) : Type 0 where
  pub set : length stores.set ≡ n
  pub stored_delayed : length stores.stored_delayed ≡ n
  pub stored_limited : length stores.stored_limited ≡ n

abbrev pub no_stores : ℕ → Stores
no_stores n = record { set = replicate n false; stored_delayed = replicate n false; stored_limited = replicate n false }

-- the same with the inputs P, P1 and P0 of the newest scan
pub record IsKept (n : ℕ) (kept : Kept) : Type 0 where
  pub pulse : length kept.pulse ≡ n
  pub rising_pulse : length kept.rising_pulse ≡ n
  pub falling_pulse : length kept.falling_pulse ≡ n
  pub stores : AreStores n kept.stores
  pub delayed_stored : length kept.delayed_stored ≡ n

abbrev pub none_kept : ℕ → Kept
none_kept n = record {
  pulse = replicate n false;
  rising_pulse = replicate n false;
  falling_pulse = replicate n false;
  stores = no_stores n;
  delayed_stored = replicate n false;
}

-- a flip-flop of each action after this scan: set by these, reset by those
abbrev pub IsNext : List Bool → List Bool → List Bool → List Bool → Type 0
IsNext stored sets resets next = (a : ℕ) → flag next a ≡ ((flag stored a || flag sets a) && not (flag resets a))

pub record AreNext (stored : Stores) (inputs : Inputs) (next : Stores) : Type 0 where
  pub set : IsNext stored.set inputs.set inputs.reset next.set
  pub stored_delayed : IsNext stored.stored_delayed inputs.timed.stored_delayed inputs.reset next.stored_delayed
  pub stored_limited : IsNext stored.stored_limited inputs.timed.stored_limited inputs.reset next.stored_limited
