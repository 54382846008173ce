-- What an association that acts gives its action.
use Rattle.std.specs.Prelude.{Bool, true, cond, ◌||◌}
use Rattle.sfc_base.specs.declared.qualifier.TimedQualifier.{TimedQualifier}
use Rattle.sfc_base.specs.declared.qualifier.TimedQualifier.TheVariants.{Limited, Delayed, StoredDelayed}
use Rattle.sfc_base.specs.declared.qualifier.TimedQualifier.TheVariants.{DelayedStored, StoredLimited}
use Rattle.sfc_plant.specs.declared.association.Qualifier.{Qualifier}
use Rattle.sfc_plant.specs.declared.association.Qualifier.TheVariants.{NonStored, Reset, Set, Pulse}
use Rattle.sfc_plant.specs.declared.association.Qualifier.TheVariants.{RisingPulse, FallingPulse, Timed}
use Rattle.sfc_action.specs.Private.WordRows.{TimedRow, PlainRow, InputRow}

abbrev pub timed_by : TimedQualifier → TimedRow → Bool
timed_by Limited r = r.limited
timed_by Delayed r = r.delayed
timed_by StoredDelayed r = r.stored_delayed
timed_by DelayedStored r = r.delayed_stored
timed_by StoredLimited r = r.stored_limited

abbrev pub with_timed : TimedQualifier → TimedRow → TimedRow
with_timed Limited r = record r { limited = true }
with_timed Delayed r = record r { delayed = true }
with_timed StoredDelayed r = record r { stored_delayed = true }
with_timed DelayedStored r = record r { delayed_stored = true }
with_timed StoredLimited r = record r { stored_limited = true }

abbrev pub with_time : TimedQualifier → InputRow → InputRow
with_time qualifier r = record r {
  timed = with_timed qualifier r.timed;
  any_time = true;
  more_times = cond r.any_time true r.more_times;
}

abbrev pub with_input : Qualifier → InputRow → InputRow
with_input NonStored r = record r { non_stored = true }
with_input Reset r = record r { reset = true }
with_input Set r = record r { set = true }
with_input Pulse r = record r { pulse = true }
with_input RisingPulse r = record r { rising_pulse = true }
with_input FallingPulse r = record r { falling_pulse = true }
with_input (Timed qualifier time) r = with_time qualifier r

-- the same of inputs without a time, to which a qualifier with a time gives nothing
abbrev pub with_plain : Qualifier → PlainRow → PlainRow
with_plain NonStored r = record r { non_stored = true }
with_plain Reset r = record r { reset = true }
with_plain Set r = record r { set = true }
with_plain Pulse r = record r { pulse = true }
with_plain RisingPulse r = record r { rising_pulse = true }
with_plain FallingPulse r = record r { falling_pulse = true }
with_plain (Timed qualifier time) r = r

-- the inputs of both
abbrev pub both_plain : PlainRow → PlainRow → PlainRow
both_plain r p = record {
  non_stored = r.non_stored || p.non_stored;
  reset = r.reset || p.reset;
  set = r.set || p.set;
  pulse = r.pulse || p.pulse;
  rising_pulse = r.rising_pulse || p.rising_pulse;
  falling_pulse = r.falling_pulse || p.falling_pulse;
}

abbrev pub with_all_plain : PlainRow → InputRow → InputRow
with_all_plain p r = record r {
  non_stored = r.non_stored || p.non_stored;
  reset = r.reset || p.reset;
  set = r.set || p.set;
  pulse = r.pulse || p.pulse;
  rising_pulse = r.rising_pulse || p.rising_pulse;
  falling_pulse = r.falling_pulse || p.falling_pulse;
}
