-- How far the Boolean actions of an instance were given their Q.
use Rattle.std.specs.Prelude.{ℕ, ◌≡◌, ◌<◌, ◌≤◌, Bool, true, List, take}
use Rattle.sfc_base.specs.declared.ids.ProgId.{ProgId}
use Rattle.sfc_flags.specs.Flags.{flag}
use Rattle.sfc_plant.specs.Plants.{PlantData}
use Rattle.sfc_plant.specs.declared.association.Target.{Target}
use Rattle.sfc_image.specs.declared.slot.Slot.{Slot}
use Rattle.sfc_image.specs.Bodies.{with_changes}
use Rattle.sfc_image.specs.Changes.{Changes}
use Rattle.sfc_image.specs.Outputs.{outputs}
use Rattle.sfc_image.specs.Private.OutputMemos.{HasQ}

-- The first `from` actions of the instance were given their Q, and what was done agrees; where what was given before
-- holds, the others have that.
pub record AssignedTo (plant : PlantData) (changes : Changes) (p : ProgId) (q : List Bool) (holds : Bool)
    (targets : List Target) (from : ℕ) (slots : List Slot) (given : List Bool) (Agrees : Changes → Type 0) : Type 0 where
  pub agrees : Agrees (with_changes (outputs plant p q 0 (take from targets)) changes)
  pub done : (a : ℕ) → a < from → HasQ plant p slots a (flag q a)
  pub rest : holds ≡ true → (a : ℕ) → from ≤ a → HasQ plant p slots a (flag given a)
