-- The first fault, and when no action has one.
use Rattle.std.proofs.Common.{◌≡◌, ℕ, List, [], ◌∷◌, refl, ◌∙◌, ap, subst}
use Rattle.std.specs.Prelude.{Option, Some, None}
use Rattle.sfc_tables.specs.declared.step_action.StepAction.{StepAction}
use Rattle.sfc_evolve.specs.Lookback.{or_else}
use Rattle.sfc_action.specs.declared.fault.ActionFault.{ActionFault}
use Rattle.sfc_action.specs.declared.fault.ControlFault.{ControlFault}
use Rattle.sfc_action.specs.ActionControl.{fault_with, first_in}

pub first_none : (fault : ℕ → Option ControlFault) (xs : List StepAction) → ((a : ℕ) → fault a ≡ None) → first_in fault xs ≡ None
first_none fault [] none = refl
first_none fault (x ∷ xs) none = ap (λ o. or_else (fault_with x.action o) (first_in fault xs)) (none x.action.0) ∙ first_none fault xs none

-- the first fault is one of its action
same_some : (one found : ActionFault) → Some one ≡ Some found → one ≡ found
same_some one found e = cc

first_by : (fault : ℕ → Option ControlFault) (x : StepAction) (xs : List StepAction) (found : ActionFault) (o : Option ControlFault)
    → fault x.action.0 ≡ o → (first_in fault xs ≡ Some found → fault found.action.0 ≡ Some found.fault)
    → or_else (fault_with x.action o) (first_in fault xs) ≡ Some found → fault found.action.0 ≡ Some found.fault
first_by fault x xs found None is later e = later e
first_by fault x xs found (Some f) is later e =
    subst (λ (one : ActionFault). fault one.action.0 ≡ Some one.fault) (same_some (record { action = x.action; fault = f }) found e) is

pub first_of : (fault : ℕ → Option ControlFault) (xs : List StepAction) (found : ActionFault) → first_in fault xs ≡ Some found
    → fault found.action.0 ≡ Some found.fault
first_of fault [] found e = absurd cc
first_of fault (x ∷ xs) found e = first_by fault x xs found (fault x.action.0) refl (first_of fault xs found) e
