-- Sets of actions, as clauses see them.
use Rattle.std.specs.Prelude.{Bool, List}

-- by the qualifiers with a time
pub record TimedSets : Type 0 where
  pub limited : List Bool
  pub delayed : List Bool
  pub stored_delayed : List Bool
  pub delayed_stored : List Bool
  pub stored_limited : List Bool

-- those whose flip-flops are set
pub record StoreSets : Type 0 where
  pub set : List Bool
  pub stored_delayed : List Bool
  pub stored_limited : List Bool

-- those with each input in a scan, those with an association that acts and has a time, and those with more than one such
pub record InputSets : Type 0 where
  pub non_stored : List Bool
  pub reset : List Bool
  pub set : List Bool
  pub pulse : List Bool
  pub rising_pulse : List Bool
  pub falling_pulse : List Bool
  pub timed : TimedSets
  pub any_time : List Bool
  pub more_times : List Bool

-- those with an input P, P1 or P0 in the newest scan, and those whose flip-flops are set
pub record KeptSets : Type 0 where
  pub pulse : List Bool
  pub rising_pulse : List Bool
  pub falling_pulse : List Bool
  pub stores : StoreSets
  pub delayed_stored : List Bool
