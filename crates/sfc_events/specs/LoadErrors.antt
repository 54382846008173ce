-- The numbers and names of what loading refuses, and how a refusal is told (our choice).
use Rattle.std.specs.Prelude.{ℕ, List, ◌++◌, codes}
use Rattle.std.specs.Fmt.{decimal}
use Rattle.sfc_events.specs.declared.load_error.Limit.{Limit as LimitKind}
use Rattle.sfc_events.specs.declared.load_error.Limit.TheVariants.{Steps, Transitions, Associations, Variables, Instances, Tasks}
use Rattle.sfc_events.specs.declared.load_error.LoadError.{LoadError}
use Rattle.sfc_events.specs.declared.load_error.LoadError.TheVariants.{Unknown, WrongType, LiteralRange, NotAssignable, Duplicate, NoInitial, UnknownStep, UnknownAction, NotBool, NotTime, NoTask, UnknownType, SameLocation, Limit, Memory}

abbrev pub name_of_limit : LimitKind → List ℕ
name_of_limit Steps = codes "Steps"
name_of_limit Transitions = codes "Transitions"
name_of_limit Associations = codes "Associations"
name_of_limit Variables = codes "Variables"
name_of_limit Instances = codes "Instances"
name_of_limit Tasks = codes "Tasks"

abbrev pub number_of : LoadError → ℕ
number_of Unknown = 9
number_of WrongType = 10
number_of LiteralRange = 11
number_of NotAssignable = 12
number_of Duplicate = 13
number_of NoInitial = 14
number_of UnknownStep = 15
number_of UnknownAction = 16
number_of NotBool = 17
number_of NotTime = 18
number_of NoTask = 19
number_of UnknownType = 20
number_of SameLocation = 21
number_of (Limit what) = 22
number_of Memory = 23

abbrev pub name_of : LoadError → List ℕ
name_of Unknown = codes "Unknown"
name_of WrongType = codes "WrongType"
name_of LiteralRange = codes "LiteralRange"
name_of NotAssignable = codes "NotAssignable"
name_of Duplicate = codes "Duplicate"
name_of NoInitial = codes "NoInitial"
name_of UnknownStep = codes "UnknownStep"
name_of UnknownAction = codes "UnknownAction"
name_of NotBool = codes "NotBool"
name_of NotTime = codes "NotTime"
name_of NoTask = codes "NoTask"
name_of UnknownType = codes "UnknownType"
name_of SameLocation = codes "SameLocation"
name_of (Limit what) = codes "Limit"
name_of Memory = codes "Memory"

-- its number and its name, and of a limit what there is too much of; want of memory has none of them
abbrev pub error_text : LoadError → List ℕ
error_text Memory = codes "out of memory"
error_text (Limit what) =
    codes "refused " ++ decimal (number_of (Limit what)) ++ codes " " ++ name_of (Limit what) ++ codes " " ++ name_of_limit what
error_text error = codes "refused " ++ decimal (number_of error) ++ codes " " ++ name_of error
