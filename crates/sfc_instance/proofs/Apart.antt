-- States that differ by what a scan may have changed.
use denote.Struct.Props.{props}
use Rattle.std.proofs.Common.{◌≡◌, subst}
use Rattle.sfc_evolve.specs.declared.steps.Steps.{Steps}
use Rattle.sfc_evolve.specs.Agreement.{IsLike, IsClose}
use Rattle.sfc_evolve.proofs.Alike.{like_prop, close_prop}
use Rattle.sfc_action.specs.Agreement.{IsAlike}
use Rattle.sfc_action.proofs.Fitting.{alike_prop}
use Rattle.sfc_instance.specs.declared.moved.Moved.{Moved}
use Rattle.sfc_instance.specs.declared.moved.Moved.TheVariants as moved
use Rattle.sfc_instance.specs.declared.state.State.{State}
use Rattle.sfc_instance.specs.Agreement.{AreApart}

-- they stay so where the steps of one become others that are as near to all
pub still_apart : (kind : Moved) (other a b : State) → ((steps : Steps) → IsLike steps a.steps → IsLike steps b.steps)
    → ((steps : Steps) → IsClose steps a.steps → IsClose steps b.steps)
    → a.controls ≡ b.controls → AreApart kind other a → AreApart kind other b
still_apart moved.Nothing other a b like close same near =
    record { steps = like other.steps near.steps; controls = subst (IsAlike other.controls) same near.controls }
still_apart moved.Controls other a b like close same near = like other.steps near
still_apart moved.Steps other a b like close same near = close other.steps near
still_apart moved.All other a b like close same near = near

-- in one way at most
pub apart_prop : (kind : Moved) (a b : State) → IsProp (AreApart kind a b)
apart_prop moved.Nothing a b = hlevel (props, like_prop, alike_prop)
apart_prop moved.Controls a b = like_prop a.steps b.steps
apart_prop moved.Steps a b = close_prop a.steps b.steps
apart_prop moved.All a b = hlevel props
