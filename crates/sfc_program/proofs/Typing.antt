-- What checking types gives, as a check.
use Rattle.std.proofs.Common.{◌≡◌, None, Ok, ap}
use Rattle.sfc_check.specs.declared.type_error.TypeError.{TypeError}
use Rattle.sfc_check.specs.declared.type_error.TypeError.TheVariants as error
use Rattle.sfc_check.specs.TypeFaults as types
use Rattle.sfc_check.specs.TypeFaults.{Checked, IsFault}
use Rattle.sfc_variables.specs.Checks.{Fails, typed, checked_or}
use Rattle.sfc_check.specs.TypeFaults.{of_type_error}

pub typed_ok : {Y : Type 0} (outcome : Checked Y) (x : Y) → outcome ≡ Ok x → typed outcome ≡ None
typed_ok outcome x e = ap typed e

pub built_ok : {Y : Type 0} (other : Y) (outcome : Checked Y) (x : Y) → outcome ≡ Ok x → checked_or other outcome ≡ x
built_ok other outcome x e = ap (checked_or other) e

pub typed_fails : {Y : Type 0} (e : TypeError) (outcome : Checked Y) → types.Fails e outcome → Fails (of_type_error e) (typed outcome)
typed_fails error.Unknown outcome h = ap typed h
typed_fails error.WrongType outcome h = ap typed h
typed_fails error.LiteralRange outcome h = ap typed h
typed_fails error.NotAssignable outcome h = ap typed h
typed_fails error.Memory outcome h = tt

pub typed_faults : {Y : Type 0} (e : TypeError) (outcome : Checked Y) → IsFault e outcome → Fails (of_type_error e) (typed outcome)
typed_faults error.Unknown outcome h = ap typed h
typed_faults error.WrongType outcome h = ap typed h
typed_faults error.LiteralRange outcome h = ap typed h
typed_faults error.NotAssignable outcome h = ap typed h
typed_faults error.Memory outcome h = tt

pub ruleset typing = (typed_ok, built_ok, typed_fails, typed_faults)
