-- The parts of a plant, while it is loaded.
use Rattle.std.specs.Prelude.{◌≡◌, ◌≤◌, None, length, map}
use Rattle.sfc_base.specs.declared.limits.TheConstants.{TASKS}
use Rattle.sfc_text.specs.declared.tree.Source.{Source}
use Rattle.sfc_text.specs.Trees.{SourceTree}
use Rattle.sfc_program.specs.sfc_variables.Declarations.{globals_check, globals_of}
use Rattle.sfc_program.specs.Built.{program_of}
use Rattle.sfc_plant.specs.declared.declarations.Declarations.{Declarations}
use Rattle.sfc_plant.specs.declared.parts.Parts.{Parts}
use Rattle.sfc_plant.specs.declared.titles.Titles.{Titles}
use Rattle.sfc_plant.specs.Plants.{PlantData}
use Rattle.sfc_plant.specs.PlantParts.{plant_under}
use Rattle.sfc_load.specs.Loading.{task_names, program_names, tasks_check, programs_check}
use Rattle.sfc_load.specs.Built.{task_of}

abbrev pub titles_of : Source → Titles
titles_of s =
    record { configuration = s.configuration.name; resource = s.configuration.resource; processor = s.configuration.processor }

abbrev pub plant_from : Source → Parts → PlantData
plant_from s parts = plant_under (titles_of s) parts

-- what was declared in a text without fault
pub record AreDeclared (s : SourceTree) (d : Declarations) : Type 0 where
  pub globals_pass : globals_check s.configuration.globals ≡ None
  pub globals_are : d.globals ≡ globals_of s.configuration.globals
  pub tasks_pass : tasks_check d.globals s.configuration.tasks ≡ None
  pub tasks_are : d.tasks ≡ map (task_of d.globals) s.configuration.tasks
  pub types_pass : programs_check d.globals s.programs ≡ None
  pub types_are : d.types ≡ map (program_of d.globals) s.programs
  pub task_table : d.task_names ≡ task_names s.configuration.tasks
  pub type_table : d.type_names ≡ program_names s.programs
  pub few : length d.task_names ≤ TASKS
