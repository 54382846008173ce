-- What holds of each plant (2.6.2, 2.6.3, 2.7.1, 2.7.2): the numbers of its tasks, instances, associations and sides name something,
-- and its limits hold. Nothing is said here of the numbers in conditions and bodies.
use Rattle.std.specs.Prelude.{ℕ, ◌<◌, ◌≤◌, ◌^◌, pos, ◌≤ℤ◌, All, Option, Some, None, length, ⊤}
use Rattle.sfc_base.specs.declared.limits.TheConstants.{INSTANCES, TASKS, VARIABLES}
use Rattle.sfc_base.specs.declared.references.GlobalId.{GlobalId}
use Rattle.sfc_plant.specs.Chart.{IsChart}
use Rattle.sfc_plant.specs.declared.program_type.ProgramType.{ProgramType}
use Rattle.sfc_plant.specs.declared.task.Task.{Task}
use Rattle.sfc_plant.specs.declared.instance.Instance.{Instance}
use Rattle.sfc_plant.specs.Plants.{PlantData}
use Rattle.sfc_plant.specs.Image.{image_variables}

abbrev pub IsSingle : ℕ → Option GlobalId → Type 0
IsSingle globals None = ⊤
IsSingle globals (Some id) = id.0 < globals

-- among so many globals
pub record IsTask (globals : ℕ) (task : Task) : Type 0 where
  pub single : IsSingle globals task.single
  pub low : pos 0 ≤ℤ task.interval
  pub high : task.interval ≤ℤ pos (2 ^ 62)

-- among so many globals
abbrev pub IsProgram : ℕ → ProgramType → Type 0
IsProgram globals p = IsChart (record { globals = globals; locals = length p.locals }) p.chart

-- among so many tasks and program types
pub record IsInstance (tasks types : ℕ) (instance : Instance) : Type 0 where
  pub task : instance.task.0 < tasks
  pub program : instance.program.0 < types

pub record IsPlant (plant : PlantData) : Type 0 where
  pub tasks : All (IsTask (length plant.globals)) plant.tasks
  pub types : All (IsProgram (length plant.globals)) plant.types
  pub instances : All (IsInstance (length plant.tasks) (length plant.types)) plant.instances
  pub variable_limit : length (image_variables plant) ≤ VARIABLES
  pub task_limit : length plant.tasks ≤ TASKS
  pub instance_limit : length plant.instances ≤ INSTANCES
