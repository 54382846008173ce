-- Faults by sets of actions.
use Rattle.std.specs.Prelude.{ℕ, ◌&&◌, Option}
use Rattle.sfc_flags.specs.Flags.{flag}
use Rattle.sfc_action.specs.declared.fault.ControlFault.{ControlFault}
use Rattle.sfc_action.specs.declared.inputs.Inputs.{Inputs}
use Rattle.sfc_action.specs.declared.stores.Stores.{Stores}
use Rattle.sfc_action.specs.ActionControl.{fault_by}

-- the fault of an action with these inputs and what these flip-flops store
abbrev pub fault_at : Inputs → Stores → ℕ → Option ControlFault
fault_at inputs stores a =
    fault_by (flag inputs.more_times a) (flag inputs.timed.stored_delayed a && flag stores.stored_limited a)
    (flag inputs.timed.stored_limited a && flag stores.stored_delayed a)
