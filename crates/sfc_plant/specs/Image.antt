-- The variables of a plant: the globals, and then the locals of each instance, in text order (2.4.3, 2.7.1).
use Rattle.std.specs.Prelude.{ℕ, suc, ◌+◌, List, [], ◌∷◌, ◌++◌, length, map, flat_map, Option, Some, None, slice_get}
use Rattle.std.specs.List.{filter_map, range_with_len}
use Rattle.sfc_base.specs.declared.location.Location.{Location}
use Rattle.sfc_plant.specs.declared.variable.Variable.{Variable}
use Rattle.sfc_plant.specs.declared.program_type.ProgramType.{ProgramType}
use Rattle.sfc_plant.specs.declared.image_variable.ImageVariable.{ImageVariable}
use Rattle.sfc_plant.specs.declared.image_variable.ImageVariable.TheVariants.{Global, Local}
use Rattle.sfc_plant.specs.declared.instance.Instance.{Instance}
use Rattle.sfc_plant.specs.Plants.{PlantData}

abbrev pub locals_in : Option ProgramType → List Variable
locals_in (Some p) = p.locals
locals_in None = []

-- the locals of an instance are those of its program type
abbrev pub locals_of : List ProgramType → Instance → List Variable
locals_of types i = locals_in (slice_get types i.program.0)

-- a variable for each global, and one for each local of each instance
abbrev pub image_of : List Variable → List ProgramType → List Instance → List Variable
image_of globals types instances = globals ++ flat_map (locals_of types) instances

abbrev pub image_variables : PlantData → List Variable
image_variables plant = image_of plant.globals plant.types plant.instances

-- where the variables lie that lie somewhere (2.4.1.1)
abbrev pub locations_of : List Variable → List Location
locations_of vs = filter_map (λ v. v.location) vs

-- the number of the first local of each instance, where so many variables go before
abbrev pub starts_from : ℕ → List ProgramType → List Instance → List ℕ
starts_from n types [] = []
starts_from n types (i ∷ is) = n ∷ starts_from (n + length (locals_of types i)) types is

-- ---- what each of them is

-- n global variables
abbrev pub globals_to : ℕ → List ImageVariable
globals_to n = map (λ i. Global (record { 0 = i })) (range_with_len 0 n)

-- n locals of instance k
abbrev pub locals_to : ℕ → ℕ → List ImageVariable
locals_to k n = map (λ i. Local (record { 0 = k }) (record { 0 = i })) (range_with_len 0 n)

-- those of these instances, of which the first has number k
abbrev pub locals_from : List ProgramType → ℕ → List Instance → List ImageVariable
locals_from types k [] = []
locals_from types k (i ∷ is) = locals_to k (length (locals_of types i)) ++ locals_from types (suc k) is

-- what each variable is, by its number
abbrev pub image_numbering : PlantData → List ImageVariable
image_numbering plant = globals_to (length plant.globals) ++ locals_from plant.types 0 plant.instances
