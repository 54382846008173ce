-- What loading refuses: checks, one after the other, of which the first fault is told (our choice of order).
use Rattle.std.specs.Prelude.{◌≡◌, ℕ, Bool, true, false, List, [], ◌∷◌, ◌++◌, Option, Some, None, Result, Ok, Err, ⊤}
use Rattle.sfc_check.specs.TypeFaults.{TypeFault, Checked, Unknown, WrongType, LiteralRange, NotAssignable}
use Rattle.sfc_events.specs.declared.load_error.LoadError.{LoadError}
use Rattle.sfc_events.specs.declared.load_error.LoadError.TheVariants as fault

abbrev pub Check : Type 0
Check = Option LoadError

-- the first fault of two checks
infixr 12 ◌then◌
abbrev pub ◌then◌ : Check → Check → Check
(Some f) then c = Some f
None then c = c

-- the fault, where it is so
abbrev pub when : Bool → LoadError → Check
when true f = Some f
when false f = None

-- each element in turn
abbrev pub each : {A : Type 0} → (A → Check) → List A → Check
each check [] = None
each check (x ∷ xs) = check x then each check xs

-- each element in turn, with the names of those before it
abbrev pub in_turn : {A : Type 0} → (A → List ℕ) → (List (List ℕ) → A → Check) → List (List ℕ) → List A → Check
in_turn name check before [] = None
in_turn name check before (x ∷ xs) = check before x then in_turn name check (before ++ name x ∷ []) xs

-- ---- types (3.3)

abbrev pub fault_of_type : TypeFault → LoadError
fault_of_type Unknown = fault.Unknown
fault_of_type WrongType = fault.WrongType
fault_of_type LiteralRange = fault.LiteralRange
fault_of_type NotAssignable = fault.NotAssignable

-- the type fault, where there is one
abbrev pub typed : {A : Type 0} → Checked A → Check
typed (Ok x) = None
typed (Err f) = Some (fault_of_type f)

-- what was checked; the first, where it has a fault
abbrev pub checked_or : {A : Type 0} → A → Checked A → A
checked_or other (Ok x) = x
checked_or other (Err f) = other

-- ---- what a function gives that makes checks

-- want of memory says nothing; any other fault is the first one
abbrev pub Fails : LoadError → Check → Type 0
Fails fault.Memory check = ⊤
Fails f check = check ≡ Some f

-- Ok exactly without fault, and then with what is built; else the first fault, or want of memory
abbrev pub Loads : {X Y : Type 0} → (X → Y) → Result X LoadError → Check → Y → Type 0
Loads view (Ok x) check built = (check ≡ None) × (view x ≡ built)
Loads view (Err f) check built = Fails f check
