-- The letters of qualifiers (2.6.4.4).
use Rattle.std.specs.Prelude.{ℕ, List, codes}
use Rattle.sfc_base.specs.declared.qualifier.TimedQualifier.{TimedQualifier}
use Rattle.sfc_base.specs.declared.qualifier.TimedQualifier.TheVariants as timed
use Rattle.sfc_plant.specs.declared.association.Qualifier.{Qualifier}
use Rattle.sfc_plant.specs.declared.association.Qualifier.TheVariants as qualifier

abbrev pub timed_letters : TimedQualifier → List ℕ
timed_letters timed.Limited = codes "L"
timed_letters timed.Delayed = codes "D"
timed_letters timed.StoredDelayed = codes "SD"
timed_letters timed.DelayedStored = codes "DS"
timed_letters timed.StoredLimited = codes "SL"

abbrev pub letters : Qualifier → List ℕ
letters qualifier.NonStored = codes "N"
letters qualifier.Reset = codes "R"
letters qualifier.Set = codes "S"
letters qualifier.Pulse = codes "P"
letters qualifier.RisingPulse = codes "P1"
letters qualifier.FallingPulse = codes "P0"
letters (qualifier.Timed q time) = timed_letters q
