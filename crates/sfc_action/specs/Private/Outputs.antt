-- Q of all actions, and what else a scan keeps.
use Rattle.std.specs.Prelude.{ℕ, Bool, not, ◌&&◌, ◌||◌, List}
use Rattle.sfc_flags.specs.Flags.{flag}
use Rattle.sfc_action.specs.declared.timed.Timed.{Timed}
use Rattle.sfc_action.specs.declared.inputs.Inputs.{Inputs}
use Rattle.sfc_action.specs.declared.stores.Stores.{Stores}

-- Q of an action with these inputs, flip-flops and elapsed on-delays, where `pulse` has P of the scan before
abbrev pub q_at : Inputs → Stores → Timed → List Bool → List Bool → ℕ → Bool
q_at inputs stores elapsed pulse delayed_stored a = not (flag inputs.reset a) && (
    flag inputs.non_stored a
    || flag stores.set a
    || (flag inputs.timed.limited a && not (flag elapsed.limited a))
    || flag elapsed.delayed a
    || (flag inputs.pulse a && not (flag pulse a))
    || flag elapsed.stored_delayed a
    || flag delayed_stored a
    || (flag stores.stored_limited a && not (flag elapsed.stored_limited a)))
