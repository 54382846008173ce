-- What the end of an event tells.
use Rattle.std.specs.Prelude.{⊤, List, ℤ, Option, Some, None}
use Rattle.sfc_base.specs.declared.ids.TaskId.{TaskId}
use Rattle.sfc_plant.specs.declared.task.Task.{Task}
use Rattle.sfc_plant.specs.Plants.{PlantData}
use Rattle.sfc_tasks.specs.Calls.{Call}
use Rattle.sfc_tasks.specs.Releases.{interval_of, overruns}
use Rattle.sfc_events.specs.declared.event.Event.{Event}
use Rattle.sfc_events.specs.Events.{scanned_task}
use Rattle.sfc_events.specs.declared.event.Outcome.{Outcome}
use Rattle.sfc_events.specs.declared.event.Outcome.TheVariants.{Done, Scanned}
use Rattle.sfc_instances.specs.declared.bits.Bits.{Bits}
use Rattle.sfc_instances.specs.Ends.{AreBits}
use Rattle.sfc_instances.specs.PlantState.{PlantState}

-- the bits of a scan of this task at t, if there is one
abbrev pub AreTaskBits : PlantData → Option TaskId → ℤ → PlantState → Bits → Type 0
AreTaskBits plant None t state bits = ⊤
AreTaskBits plant (Some task) t state bits = AreBits plant task t state bits

-- the bits of a scan at t, if the event is one
abbrev pub AreEventBits : PlantData → Event → ℤ → PlantState → Bits → Type 0
AreEventBits plant event t state bits = AreTaskBits plant (scanned_task event) t state bits

-- a scan of the task with these bits, after which the tasks were told so
abbrev pub scanned : List Task → List Call → Bits → TaskId → Outcome
scanned tasks calls bits task =
    Scanned bits.ran bits.faulted bits.skipped (overruns (interval_of tasks task.0) task.0 calls)

-- where this task was scanned, or none
abbrev pub outcome_of : List Task → List Call → Bits → Option TaskId → Outcome
outcome_of tasks calls bits None = Done
outcome_of tasks calls bits (Some task) = scanned tasks calls bits task

-- what an accepted event answers
abbrev pub outcome_by : List Task → List Call → Bits → Event → Outcome
outcome_by tasks calls bits event = outcome_of tasks calls bits (scanned_task event)
