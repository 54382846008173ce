-- Tables keep their sizes.
use Rattle.std.proofs.Common.{◌≡◌, ℕ, ◌<◌, Bool, true, false, cond, List, length, get_or, arith, sym, subst, ◌∙◌}
use Rattle.std.specs.Prelude.{slice_set}
use Rattle.std.proofs.lemmas.List.{length-set, length-replicate}
use Rattle.sfc_base.specs.declared.qualifier.TimedQualifier.{TimedQualifier}
use Rattle.sfc_base.specs.declared.qualifier.TimedQualifier.TheVariants.{Limited, Delayed, StoredDelayed, DelayedStored, StoredLimited}
use Rattle.sfc_flags.specs.Flags.{flag}
use Rattle.sfc_base.specs.declared.ids.ActionNumber.{ActionNumber}
use Rattle.sfc_plant.specs.declared.association.Qualifier.{Qualifier}
use Rattle.sfc_plant.specs.declared.association.Qualifier.TheVariants.{NonStored, Reset, Set, Pulse, RisingPulse, FallingPulse, Timed}
use Rattle.sfc_action.specs.declared.inputs.Inputs.{Inputs}
use Rattle.sfc_action.specs.declared.timed.Timed as timed
use Rattle.sfc_action.specs.declared.stores.Stores.{Stores}
use Rattle.sfc_action.specs.declared.kept.Kept.{Kept}
use Rattle.sfc_action.specs.declared.blocks.Block.{Block}
use Rattle.sfc_action.specs.Private.Storing.{AreStores, no_stores, IsKept, none_kept}
use Rattle.sfc_action.specs.Private.TimedSets.{AreAll, none, with_action}
use Rattle.sfc_action.specs.Private.Marking.{AreSized, cleared, marked}
use Rattle.sfc_action.specs.Private.Delays.{AreOf}

abbrev Sets : Type 0
Sets = timed.Timed

set_length : (n a : ℕ) (xs : List Bool) → length xs ≡ n → length (slice_set xs a true) ≡ n
set_length n a xs e = length-set xs a true ∙ e

set_where_length : (n a : ℕ) (b : Bool) (xs : List Bool) → length xs ≡ n → length (cond b (slice_set xs a true) xs) ≡ n
set_where_length n a true xs e = set_length n a xs e
set_where_length n a false xs e = e

pub all_added : (n : ℕ) (q : TimedQualifier) (a : ℕ) (sets : Sets) → AreAll n sets → AreAll n (with_action q a sets)
all_added n Limited a sets h = record {
  limited = set_length n a sets.limited h.limited;
  delayed = h.delayed;
  stored_delayed = h.stored_delayed;
  delayed_stored = h.delayed_stored;
  stored_limited = h.stored_limited;
}
all_added n Delayed a sets h = record {
  limited = h.limited;
  delayed = set_length n a sets.delayed h.delayed;
  stored_delayed = h.stored_delayed;
  delayed_stored = h.delayed_stored;
  stored_limited = h.stored_limited;
}
all_added n StoredDelayed a sets h = record {
  limited = h.limited;
  delayed = h.delayed;
  stored_delayed = set_length n a sets.stored_delayed h.stored_delayed;
  delayed_stored = h.delayed_stored;
  stored_limited = h.stored_limited;
}
all_added n DelayedStored a sets h = record {
  limited = h.limited;
  delayed = h.delayed;
  stored_delayed = h.stored_delayed;
  delayed_stored = set_length n a sets.delayed_stored h.delayed_stored;
  stored_limited = h.stored_limited;
}
all_added n StoredLimited a sets h = record {
  limited = h.limited;
  delayed = h.delayed;
  stored_delayed = h.stored_delayed;
  delayed_stored = h.delayed_stored;
  stored_limited = set_length n a sets.stored_limited h.stored_limited;
}

pub all_none : (n : ℕ) → AreAll n (none n)
all_none n = record {
  limited = length-replicate n false;
  delayed = length-replicate n false;
  stored_delayed = length-replicate n false;
  delayed_stored = length-replicate n false;
  stored_limited = length-replicate n false;
}

pub sized_marked : (n : ℕ) (q : Qualifier) (a : ℕ) (i : Inputs) → AreSized n i → AreSized n (marked q a i)
sized_marked n NonStored a i h = record {
  non_stored = set_length n a i.non_stored h.non_stored;
  reset = h.reset;
  set = h.set;
  pulse = h.pulse;
  rising_pulse = h.rising_pulse;
  falling_pulse = h.falling_pulse;
  any_time = h.any_time;
  more_times = h.more_times;
  timed = h.timed;
}
sized_marked n Reset a i h = record {
  non_stored = h.non_stored;
  reset = set_length n a i.reset h.reset;
  set = h.set;
  pulse = h.pulse;
  rising_pulse = h.rising_pulse;
  falling_pulse = h.falling_pulse;
  any_time = h.any_time;
  more_times = h.more_times;
  timed = h.timed;
}
sized_marked n Set a i h = record {
  non_stored = h.non_stored;
  reset = h.reset;
  set = set_length n a i.set h.set;
  pulse = h.pulse;
  rising_pulse = h.rising_pulse;
  falling_pulse = h.falling_pulse;
  any_time = h.any_time;
  more_times = h.more_times;
  timed = h.timed;
}
sized_marked n Pulse a i h = record {
  non_stored = h.non_stored;
  reset = h.reset;
  set = h.set;
  pulse = set_length n a i.pulse h.pulse;
  rising_pulse = h.rising_pulse;
  falling_pulse = h.falling_pulse;
  any_time = h.any_time;
  more_times = h.more_times;
  timed = h.timed;
}
sized_marked n RisingPulse a i h = record {
  non_stored = h.non_stored;
  reset = h.reset;
  set = h.set;
  pulse = h.pulse;
  rising_pulse = set_length n a i.rising_pulse h.rising_pulse;
  falling_pulse = h.falling_pulse;
  any_time = h.any_time;
  more_times = h.more_times;
  timed = h.timed;
}
sized_marked n FallingPulse a i h = record {
  non_stored = h.non_stored;
  reset = h.reset;
  set = h.set;
  pulse = h.pulse;
  rising_pulse = h.rising_pulse;
  falling_pulse = set_length n a i.falling_pulse h.falling_pulse;
  any_time = h.any_time;
  more_times = h.more_times;
  timed = h.timed;
}
sized_marked n (Timed q time) a i h = record {
  non_stored = h.non_stored;
  reset = h.reset;
  set = h.set;
  pulse = h.pulse;
  rising_pulse = h.rising_pulse;
  falling_pulse = h.falling_pulse;
  timed = all_added n q a i.timed h.timed;
  any_time = set_length n a i.any_time h.any_time;
  more_times = set_where_length n a (flag i.any_time a) i.more_times h.more_times;
}

pub sized_cleared : (n : ℕ) → AreSized n (cleared n)
sized_cleared n = record {
  non_stored = length-replicate n false;
  reset = length-replicate n false;
  set = length-replicate n false;
  pulse = length-replicate n false;
  rising_pulse = length-replicate n false;
  falling_pulse = length-replicate n false;
  any_time = length-replicate n false;
  more_times = length-replicate n false;
  timed = all_none n;
}

pub sized_stores : (n : ℕ) → AreStores n (no_stores n)
sized_stores n = record {
  set = length-replicate n false;
  stored_delayed = length-replicate n false;
  stored_limited = length-replicate n false;
}

pub sized_kept : (n : ℕ) → IsKept n (none_kept n)
sized_kept n = record {
  pulse = length-replicate n false;
  rising_pulse = length-replicate n false;
  falling_pulse = length-replicate n false;
  stores = sized_stores n;
  delayed_stored = length-replicate n false;
}

-- what is equal to empty tables is as large
pub are_sized : (n : ℕ) (i : Inputs) → i ≡ cleared n → AreSized n i
are_sized n i e = rw e (sized_cleared n)

pub are_stores : (n : ℕ) (stores : Stores) → stores ≡ no_stores n → AreStores n stores
are_stores n stores e = rw e (sized_stores n)

pub is_kept : (n : ℕ) (kept : Kept) → kept ≡ none_kept n → IsKept n kept
is_kept n kept e = rw e (sized_kept n)

pub are_all : (n : ℕ) (sets : Sets) → sets ≡ none n → AreAll n sets
are_all n sets e = rw e (all_none n)

-- on-delays that keep their actions are of as many
pub still_of : (n : ℕ) (old new : List Block) → length new ≡ length old
    → ((k : ℕ) (d : Block) → k < length old → (get_or new k d).action ≡ (get_or old k d).action) → AreOf n old → AreOf n new
still_of n old new same actions of k d lt =
    let within : k < length old = omega arith in
    subst (λ (a : ActionNumber). a.0 < n) (sym (actions k d within)) (of k d within)
