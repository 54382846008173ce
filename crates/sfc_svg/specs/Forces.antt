-- What is forced of a program instance (our choice): variables of its program, each with its value.
use Rattle.std.specs.Prelude.{◌==◌, ◌++◌, ℕ, Bool, false, List, [], ◌∷◌, Option, Some, None, codes, flat_map, slice_get, if◌then◌else◌}
use Rattle.std.specs.List.{filter_map, list_any, range_with_len}
use Rattle.sfc_base.specs.declared.ids.ProgId.{ProgId}
use Rattle.sfc_base.specs.declared.ids.VarId.{VarId}
use Rattle.sfc_base.specs.declared.references.Variable.{Variable}
use Rattle.sfc_base.specs.declared.references.Variable.TheVariants as own
use Rattle.sfc_base.specs.declared.value.Value.{Value}
use Rattle.sfc_page.specs.Values.{value_text}
use Rattle.sfc_plant.specs.declared.association.Target.{Target}
use Rattle.sfc_plant.specs.declared.association.Target.TheVariants as target
use Rattle.sfc_plant.specs.declared.image_variable.ImageVariable.{ImageVariable}
use Rattle.sfc_plant.specs.declared.image_variable.ImageVariable.TheVariants as image
use Rattle.sfc_plant.specs.Image.{image_numbering}
use Rattle.sfc_plant.specs.PlantNames.{image_name}
use Rattle.sfc_plant.specs.Plants.{PlantData}
use Rattle.sfc_replay.specs.sfc_image.Changes.{Change}
use Rattle.sfc_replay.specs.sfc_image.Values.{variable_count, forced_value}
use Rattle.sfc_replay.specs.sfc_tables.Actions.{same_variable}
use Rattle.sfc_svg.specs.declared.force.Force.{Force}

-- ---- which variables

-- what a variable of the image is in the program of this instance: a global one, or one of its locals (2.4.3)
abbrev pub own_variable : ProgId → Option ImageVariable → Option Variable
own_variable p None = None
own_variable p (Some (image.Global id)) = Some (own.Global id)
own_variable p (Some (image.Local owner id)) = if owner.0 == p.0 then Some (own.Local id) else None

-- the variable with the value to which it is forced, if it is
abbrev pub with_value : VarId → Variable → Option Value → Option Force
with_value id v None = None
with_value id v (Some x) = Some record { id = id; variable = v; value = x }

-- the same, if it is one of the program
abbrev pub with_variable : VarId → Option Variable → Option Value → Option Force
with_variable id None forced = None
with_variable id (Some v) forced = with_value id v forced

-- the variable of the image with this number, if it is one of the program and forced
abbrev pub force_of : PlantData → List Change → ProgId → VarId → Option Force
force_of plant changes p id = with_variable id (own_variable p (slice_get (image_numbering plant) id.0)) (forced_value changes id.0)

-- those of an instance after these changes, in the order of the image
abbrev pub forces_of : PlantData → List Change → ProgId → List Force
forces_of plant changes p = filter_map (λ (n : ℕ). force_of plant changes p (record { 0 = n })) (range_with_len 0 (variable_count plant))

-- the variable is one of these
abbrev pub has_variable : List Force → Variable → Bool
has_variable forces v = list_any (λ (force : Force). same_variable force.variable v) forces

-- the action is one of these variables (2.6.4.1)
abbrev pub has_action : List Force → Option Target → Bool
has_action forces None = false
has_action forces (Some (target.Boolean v)) = has_variable forces v
has_action forces (Some (target.Declared id)) = false

-- ---- what is said of them

-- by the name that scripts have for it, and its value
abbrev pub force_said : PlantData → Force → List ℕ
force_said plant force = image_name plant force.id ++ codes " := " ++ value_text force.value

-- behind another
abbrev pub further_said : PlantData → Force → List ℕ
further_said plant force = codes ", " ++ force_said plant force

abbrev pub forces_said : PlantData → List Force → List ℕ
forces_said plant [] = []
forces_said plant (force ∷ forces) = codes ", forced " ++ force_said plant force ++ flat_map (further_said plant) forces
