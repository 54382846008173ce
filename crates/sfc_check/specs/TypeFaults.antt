-- Type faults, and what checking gives (3.3.1, 3.3.2).
use Rattle.std.specs.Prelude.{◌≡◌, Result, Ok, Err, ⊤}
use Rattle.sfc_check.specs.declared.type_error.TypeError.{TypeError}
use Rattle.sfc_check.specs.declared.type_error.TypeError.TheVariants as error
use Rattle.sfc_events.specs.declared.load_error.LoadError.{LoadError}
use Rattle.sfc_events.specs.declared.load_error.LoadError.TheVariants as refused

-- a name that is not found; a type that is not the wanted one, or for which an operator is not; an integer outside the
-- range of the wanted type; a target that no statement can assign to
pub data TypeFault : Type 0 where
  Unknown : TypeFault
  WrongType : TypeFault
  LiteralRange : TypeFault
  NotAssignable : TypeFault

-- what checking gives: what was checked, or the first fault
abbrev pub Checked : Type 0 → Type 0
Checked X = Result X TypeFault

-- what follows from it; a fault stays
infixl 10 ◌>>=◌
abbrev pub ◌>>=◌ : {A B : Type 0} → Checked A → (A → Checked B) → Checked B
(Ok x) >>= f = f x
(Err fault) >>= f = Err fault

-- ---- what a function returned, beside what checking gives

-- the error is the fault; want of memory says nothing
abbrev pub Fails : {Y : Type 0} → TypeError → Checked Y → Type 0
Fails error.Unknown outcome = outcome ≡ Err Unknown
Fails error.WrongType outcome = outcome ≡ Err WrongType
Fails error.LiteralRange outcome = outcome ≡ Err LiteralRange
Fails error.NotAssignable outcome = outcome ≡ Err NotAssignable
Fails error.Memory outcome = ⊤

-- what was returned, seen by view, is what checking gives
abbrev pub Gives : {X Y : Type 0} → (X → Y) → Result X TypeError → Checked Y → Type 0
Gives view (Ok x) outcome = outcome ≡ Ok (view x)
Gives view (Err e) outcome = Fails e outcome

-- the same where no memory is taken: the error is the fault
abbrev pub IsFault : {Y : Type 0} → TypeError → Checked Y → Type 0
IsFault error.Memory outcome = ⊥
IsFault e outcome = Fails e outcome

abbrev pub GivesExactly : {X Y : Type 0} → (X → Y) → Result X TypeError → Checked Y → Type 0
GivesExactly view (Ok x) outcome = outcome ≡ Ok (view x)
GivesExactly view (Err e) outcome = IsFault e outcome

-- the refusal that a type fault is
abbrev pub of_type_error : TypeError → LoadError
of_type_error error.Unknown = refused.Unknown
of_type_error error.WrongType = refused.WrongType
of_type_error error.LiteralRange = refused.LiteralRange
of_type_error error.NotAssignable = refused.NotAssignable
of_type_error error.Memory = refused.Memory
