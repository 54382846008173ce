-- What a variable is: its type, the program instance that declares it, and where it lies (2.4.1.1; the numbers are our choice).
use Rattle.std.specs.Prelude.{ℕ, List, [], ℤ, pos, negsuc, Option, Some, None, Result, Ok, Err, slice_get}
use Rattle.sfc_base.specs.LocationText.{location_text}
use Rattle.sfc_base.specs.declared.location.Area.{Area}
use Rattle.sfc_base.specs.declared.location.Area.TheVariants as areas
use Rattle.sfc_base.specs.declared.location.Location.{Location}
use Rattle.sfc_base.specs.declared.ids.VarId.{VarId}
use Rattle.sfc_base.specs.declared.var_type.VarType.{VarType}
use Rattle.sfc_base.specs.declared.var_type.VarType.TheVariants as types
use Rattle.sfc_plant.specs.declared.image_variable.ImageVariable.{ImageVariable}
use Rattle.sfc_plant.specs.declared.image_variable.ImageVariable.TheVariants.{Local}
use Rattle.sfc_plant.specs.declared.variable.Variable.{Variable}
use Rattle.sfc_plant.specs.Image.{image_numbering, image_variables}
use Rattle.sfc_plant.specs.Plants.{PlantData}
use Rattle.sfc_c.specs.declared.about.About.{About}
use Rattle.sfc_c.specs.Codes.{unknown}

abbrev pub type_number : VarType → ℤ
type_number types.Bool = pos 0
type_number types.Int = pos 1
type_number types.Dint = pos 2
type_number types.Time = pos 3

abbrev pub area_number : Area → ℤ
area_number areas.Input = pos 1
area_number areas.Output = pos 2
area_number areas.Memory = pos 3

-- 0 where it lies nowhere
abbrev pub area_of : Option Location → ℤ
area_of None = pos 0
area_of (Some location) = area_number location.area

-- the program instance that declares it, or -1 for a global one
abbrev pub program_of : Option ImageVariable → ℤ
program_of (Some (Local p id)) = pos p.0
program_of _ = negsuc 0

abbrev pub about_of : Option Variable → Option ImageVariable → Option About
about_of None image = None
about_of (Some variable) image =
    Some (record { var_type = type_number variable.var_type; area = area_of variable.location; program = program_of image })

-- what the variable is, if there is one with this number
abbrev pub about : PlantData → VarId → Option About
about plant id = about_of (slice_get (image_variables plant) id.0) (slice_get (image_numbering plant) id.0)

-- ---- where it lies, as a text

abbrev pub place_text : Option Location → List ℕ
place_text None = []
place_text (Some location) = location_text location

abbrev pub located : Option Variable → Result (List ℕ) ℤ
located None = Err unknown
located (Some variable) = Ok (place_text variable.location)

-- empty where it lies nowhere; -3 where there is no such variable
abbrev pub location_of : PlantData → VarId → Result (List ℕ) ℤ
location_of plant id = located (slice_get (image_variables plant) id.0)
