-- Sets of actions by the qualifiers with a time.
use Rattle.std.specs.Prelude.{ℕ, ◌≡◌, Bool, true, false, List, length, replicate, slice_set}
use Rattle.sfc_base.specs.declared.qualifier.TimedQualifier.{TimedQualifier}
use Rattle.sfc_base.specs.declared.qualifier.TimedQualifier.TheVariants.{Limited, Delayed, StoredDelayed}
use Rattle.sfc_base.specs.declared.qualifier.TimedQualifier.TheVariants.{DelayedStored, StoredLimited}
use Rattle.sfc_action.specs.declared.timed.Timed.{Timed}

-- each is a table of n actions
pub record AreAll (n : ℕ) (sets : Timed) : Type 0 where
  pub limited : length sets.limited ≡ n
  pub delayed : length sets.delayed ≡ n
  pub stored_delayed : length sets.stored_delayed ≡ n
  pub delayed_stored : length sets.delayed_stored ≡ n
  pub stored_limited : length sets.stored_limited ≡ n

abbrev pub none : ℕ → Timed
none n = record {
  limited = replicate n false;
  delayed = replicate n false;
  stored_delayed = replicate n false;
  delayed_stored = replicate n false;
  stored_limited = replicate n false;
}

abbrev pub by : TimedQualifier → Timed → List Bool
by Limited sets = sets.limited
by Delayed sets = sets.delayed
by StoredDelayed sets = sets.stored_delayed
by DelayedStored sets = sets.delayed_stored
by StoredLimited sets = sets.stored_limited

abbrev pub with_action : TimedQualifier → ℕ → Timed → Timed
with_action Limited a sets = record sets { limited = slice_set sets.limited a true }
with_action Delayed a sets = record sets { delayed = slice_set sets.delayed a true }
with_action StoredDelayed a sets = record sets { stored_delayed = slice_set sets.stored_delayed a true }
with_action DelayedStored a sets = record sets { delayed_stored = slice_set sets.delayed_stored a true }
with_action StoredLimited a sets = record sets { stored_limited = slice_set sets.stored_limited a true }
