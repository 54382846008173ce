-- What a resource shows after a history.
use Rattle.std.specs.Prelude.{ℕ, Option}
use Rattle.sfc_base.specs.declared.value.Value.{Value}
use Rattle.sfc_base.specs.declared.ids.ProgId.{ProgId}
use Rattle.sfc_base.specs.declared.ids.TaskId.{TaskId}
use Rattle.sfc_base.specs.declared.ids.VarId.{VarId}
use Rattle.sfc_plant.specs.Plants.{PlantData}
use Rattle.sfc_instances.specs.sfc_image.Values as image
use Rattle.sfc_tasks.specs.Releases as tasks
use Rattle.sfc_instances.specs.sfc_instance.Life.{InstanceState}
use Rattle.sfc_events.specs.History.{History}
use Rattle.sfc_core.specs.PlantState.{state_of}
use Rattle.sfc_core.specs.Due.{calls_of}

-- what the variable reads (2.4)
abbrev pub value_of : PlantData → History → VarId → Value
value_of plant h id = image.value_of plant (state_of plant h).changes id.0

-- the value to which it is forced, if it is
abbrev pub forced_of : PlantData → History → VarId → Option Value
forced_of plant h id = image.forced_value (state_of plant h).changes id.0

-- how a program instance stands
abbrev pub instance_state_of : PlantData → History → ProgId → InstanceState
instance_state_of plant h p = (state_of plant h).instance_state p.0

-- how often a release of the task came before the one before it was served (2.7.2)
abbrev pub overruns_of : PlantData → History → TaskId → ℕ
overruns_of plant h task = tasks.overruns (tasks.interval_of plant.tasks task.0) task.0 (calls_of plant h)
