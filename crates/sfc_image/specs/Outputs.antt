-- What the Boolean actions of a program instance do with the variables (2.6.4.1).
use Rattle.std.specs.Prelude.{ℕ, suc, Bool, List, [], ◌∷◌, ◌++◌}
use Rattle.sfc_base.specs.declared.value.Value.TheVariants as value
use Rattle.sfc_flags.specs.Flags.{flag}
use Rattle.sfc_plant.specs.declared.association.Target.{Target}
use Rattle.sfc_plant.specs.declared.association.Target.TheVariants.{Boolean, Declared}
use Rattle.sfc_base.specs.declared.ids.ProgId.{ProgId}
use Rattle.sfc_plant.specs.Plants.{PlantData}
use Rattle.sfc_image.specs.Changes.{Change}
use Rattle.sfc_image.specs.Bodies.{assignment}

-- the variable that is an action by itself is assigned the action's Q
abbrev pub output : PlantData → ProgId → Target → Bool → List Change
output plant p (Boolean v) q = assignment plant p v (value.Bool q)
output plant p (Declared id) q = []

-- those of these actions, one after the other, where the first has number a, and the Q of each stands by its number
abbrev pub outputs : PlantData → ProgId → List Bool → ℕ → List Target → List Change
outputs plant p flags a [] = []
outputs plant p flags a (target ∷ targets) =
    outputs plant p flags (suc a) targets ++ output plant p target (flag flags a)
