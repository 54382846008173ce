-- What fits tables.
use denote.Struct.Props.{props}
use Rattle.std.proofs.Common.{◌≡◌, length, ◌∙◌, ap, sym}
use Rattle.std.specs.Prelude.{map}
use Rattle.sfc_tables.specs.Tables.{Tabled}
use Rattle.sfc_action.specs.declared.control_state.ControlState.{ControlState}
use Rattle.sfc_action.specs.declared.step_inputs.StepInputs.{StepInputs}
use Rattle.sfc_action.specs.Private.Keeping.{AreFor, delay_of}
use Rattle.sfc_action.specs.Agreement.{IsFor, HasDelays, AreInputsOf, IsAlike, action_total}

pub is_for : (tables : Tabled) (state : ControlState) → AreFor tables state → IsFor tables state
unfolding HasDelays
is_for tables state h = record { same_actions = h.sized.q; delays = h }

pub are_for : (tables : Tabled) (state : ControlState) → IsFor tables state → AreFor tables state
unfolding HasDelays
are_for tables state h = h.delays

-- what is kept has as many actions as the tables that it is for
pub actions_for : (tables : Tabled) (inside state : ControlState) → inside ≡ state → IsFor tables state
    → length inside.q ≡ length tables.actions
actions_for tables inside state same h = ap (λ (k : ControlState). length k.q) same ∙ h.same_actions

-- what fits the same tables has as many actions and on-delays
pub same_actions : (tables : Tabled) (one other : ControlState) → IsFor tables one → IsFor tables other
    → action_total one ≡ action_total other
same_actions tables one other h g = h.same_actions ∙ sym g.same_actions

pub same_delays : (tables : Tabled) (one other : ControlState) → IsFor tables one → IsFor tables other
    → map delay_of one.blocks ≡ map delay_of other.blocks
same_delays tables one other h g = (are_for tables one h).delays ∙ sym (are_for tables other g).delays

-- it has the on-delays in one way at most
pub delays_prop : (tables : Tabled) (state : ControlState) → IsProp (HasDelays tables state)
unfolding HasDelays
delays_prop tables state = hlevel props

-- and so what the associations give
pub inputs_prop : (tables : Tabled) (step_inputs : StepInputs) → IsProp (AreInputsOf tables step_inputs)
unfolding AreInputsOf
inputs_prop tables step_inputs = hlevel props

-- and so of two that are alike
pub alike_prop : (a b : ControlState) → IsProp (IsAlike a b)
unfolding IsAlike
alike_prop a b = hlevel props
