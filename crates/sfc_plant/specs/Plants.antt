-- Plants as values (2.7.1).
use Rattle.std.specs.Prelude.{ℕ, List}
use Rattle.sfc_plant.specs.declared.variable.Variable.{Variable}
use Rattle.sfc_plant.specs.declared.program_type.ProgramType.{ProgramType}
use Rattle.sfc_plant.specs.declared.task.Task.{Task}
use Rattle.sfc_plant.specs.declared.instance.Instance.{Instance}

-- all that a text says, but for its layout, its parentheses, and the case of letters in references
pub record PlantData : Type 0 where
  -- the names of the configuration, of its resource, and of what the resource runs on
  pub configuration : List ℕ
  pub resource : List ℕ
  pub processor : List ℕ
  -- the global variables of both levels
  pub globals : List Variable
  pub tasks : List Task
  pub types : List ProgramType
  pub instances : List Instance
