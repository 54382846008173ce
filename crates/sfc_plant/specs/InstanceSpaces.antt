-- The names in a program instance: those of its program type (2.5.3, 2.7.1).
use Rattle.std.specs.Prelude.{[], Option, Some, None}
use Rattle.sfc_base.specs.declared.ids.ProgId.{ProgId}
use Rattle.sfc_plant.specs.declared.program_type.ProgramType.{ProgramType}
use Rattle.sfc_plant.specs.declared.instance.Instance.{Instance}
use Rattle.sfc_plant.specs.Plants.{PlantData}
use Rattle.sfc_plant.specs.ProgramTypes.{type_at, type_of}
use Rattle.sfc_plant.specs.Spaces.{Space, space_in}

-- the names of a program type that isn't there
abbrev pub no_space : Space
no_space = record { globals = []; locals = []; steps = []; actions = [] }

abbrev pub space_among : PlantData → Option ProgramType → Space
space_among plant None = no_space
space_among plant (Some p) = space_in plant.globals p

abbrev pub space_at : PlantData → Option Instance → Space
space_at plant instance = space_among plant (type_at plant.types instance)

abbrev pub space_of : PlantData → ProgId → Space
space_of plant i = space_among plant (type_of plant i)
