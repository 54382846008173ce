-- The numbers and names of refusals (our choice).
use Rattle.std.specs.Prelude.{ℕ, List, ◌++◌, codes}
use Rattle.std.specs.Fmt.{decimal}
use Rattle.sfc_events.specs.declared.refusal.Refusal.{Refusal}
use Rattle.sfc_events.specs.declared.refusal.Refusal.TheVariants.{InstantRange, ClockBack, UnknownTask, UnknownProgram}
use Rattle.sfc_events.specs.declared.refusal.Refusal.TheVariants.{UnknownVar, ValueType, NotInput, NotForced, NotDue, Yield}
use Rattle.sfc_events.specs.declared.refusal.Refusal.TheVariants.{Stopped, NotRunning, NotStopped, NoSuchPoint, TooManyPoints}
use Rattle.sfc_events.specs.declared.refusal.Refusal.TheVariants.{HistoryFull, Ended, NoSuchCondition}

abbrev pub number_of : Refusal → ℕ
number_of UnknownVar = 24
number_of ValueType = 25
number_of NotInput = 26
number_of NotForced = 27
number_of ClockBack = 28
number_of (NotDue next) = 29
number_of (Yield task) = 30
number_of UnknownTask = 31
number_of UnknownProgram = 32
number_of InstantRange = 33
number_of Stopped = 34
number_of NotRunning = 35
number_of NotStopped = 36
number_of NoSuchPoint = 37
number_of TooManyPoints = 38
number_of HistoryFull = 39
number_of Ended = 40
number_of NoSuchCondition = 42

abbrev pub name_of : Refusal → List ℕ
name_of UnknownVar = codes "UnknownVar"
name_of ValueType = codes "ValueType"
name_of NotInput = codes "NotInput"
name_of NotForced = codes "NotForced"
name_of ClockBack = codes "ClockBack"
name_of (NotDue next) = codes "NotDue"
name_of (Yield task) = codes "Yield"
name_of UnknownTask = codes "UnknownTask"
name_of UnknownProgram = codes "UnknownProgram"
name_of InstantRange = codes "InstantRange"
name_of Stopped = codes "Stopped"
name_of NotRunning = codes "NotRunning"
name_of NotStopped = codes "NotStopped"
name_of NoSuchPoint = codes "NoSuchPoint"
name_of TooManyPoints = codes "TooManyPoints"
name_of HistoryFull = codes "HistoryFull"
name_of Ended = codes "Ended"
name_of NoSuchCondition = codes "NoSuchCondition"

-- what a refusal is told as
abbrev pub refusal_text : Refusal → List ℕ
refusal_text refusal = codes "refused " ++ decimal (number_of refusal) ++ codes " " ++ name_of refusal
