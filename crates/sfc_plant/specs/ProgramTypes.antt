-- The program type of a program instance (2.7.1).
use Rattle.std.specs.Prelude.{List, Option, Some, None, slice_get}
use Rattle.sfc_base.specs.declared.ids.ProgId.{ProgId}
use Rattle.sfc_plant.specs.declared.program_type.ProgramType.{ProgramType}
use Rattle.sfc_plant.specs.declared.instance.Instance.{Instance}
use Rattle.sfc_plant.specs.Plants.{PlantData}

-- that of an instance, where there is one
abbrev pub type_at : List ProgramType → Option Instance → Option ProgramType
type_at types None = None
type_at types (Some instance) = slice_get types instance.program.0

-- that of the instance with this number
abbrev pub type_of : PlantData → ProgId → Option ProgramType
type_of plant i = type_at plant.types (slice_get plant.instances i.0)
