-- What the table of tasks is told by a history (2.7.2).
use Rattle.std.specs.Prelude.{ℕ, suc, ◌==◌, Bool, false, not, ◌&&◌, cond, List, [], ◌∷◌, ℤ, Option, Some, None}
use Rattle.sfc_base.specs.declared.ids.TaskId.{TaskId}
use Rattle.sfc_plant.specs.Plants.{PlantData}
use Rattle.sfc_tasks.specs.Calls.{Call, Elapsed, Rose, Served}
use Rattle.sfc_events.specs.declared.event.Event.{Event}
use Rattle.sfc_events.specs.Events.{scanned_task}
use Rattle.sfc_events.specs.History.{History}
use Rattle.sfc_instances.specs.Singles.{singles_in}
use Rattle.sfc_core.specs.PlantState.{state_of}

-- what the SINGLE of each task reads after a history, by the task's number
unfoldable pub singles_of : PlantData → History → List Bool
singles_of plant h = singles_in plant (state_of plant h).changes

-- task k, where its SINGLE read so before an event at t and so after it
abbrev pub with_rise : ℤ → ℕ → Bool → Bool → List Call → List Call
with_rise t k before after calls = cond (not before && after) (Rose (record { 0 = k }) t ∷ calls) calls

-- a rise at t of each SINGLE that read FALSE before and reads TRUE after; the first of them is that of task k
abbrev pub with_rises : ℤ → ℕ → List Bool → List Bool → List Call → List Call
with_rises t k [] after calls = calls
with_rises t k (x ∷ before) [] calls = calls
with_rises t k (x ∷ before) (y ∷ after) calls = with_rises t (suc k) before after (with_rise t k x y calls)

-- the task is served, if there is one
abbrev pub with_served : Option TaskId → List Call → List Call
with_served None calls = calls
with_served (Some task) calls = Served task ∷ calls

-- a scan serves its task
abbrev pub with_service : Event → List Call → List Call
with_service event calls = with_served (scanned_task event) calls

-- it is task k
abbrev pub is_task : ℕ → Option TaskId → Bool
is_task k None = false
is_task k (Some task) = task.0 == k

-- the event is a scan of task k
abbrev pub is_scan_of : ℕ → Event → Bool
is_scan_of k event = is_task k (scanned_task event)

-- At each event time has gone on, while each SINGLE read what it read after the event before; a scan then serves its task;
-- and then what SINGLE reads may rise.
unfoldable pub calls_of : PlantData → History → List Call
calls_of plant [] = []
calls_of plant (timed_event ∷ h) =
    with_rises timed_event.1 0 (singles_of plant h) (singles_of plant (timed_event ∷ h))
    (with_service timed_event.0 (Elapsed timed_event.1 (singles_of plant h) ∷ calls_of plant h))

-- what it is told until t, before an event at t
abbrev pub calls_at : PlantData → History → ℤ → List Call
calls_at plant h t = Elapsed t (singles_of plant h) ∷ calls_of plant h
