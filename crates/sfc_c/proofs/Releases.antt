-- When a task is released next.
use Rattle.std.proofs.Common.{◌≡◌, ◌<◌, ◌∙◌, ℕ, ℤ, Bool, false, ap, get_or, length, refl, sym}
use Rattle.std.proofs.lemmas.List.{get_or-map}
use Rattle.std.proofs.lemmas.Option.{slice_get_read}
use Rattle.sfc_base.specs.declared.ids.TaskId.{TaskId}
use Rattle.sfc_plant.specs.declared.task.Task.{Task}
use Rattle.sfc_plant.specs.Plants.{PlantData}
use Rattle.sfc_replay.specs.sfc_instances.Singles.{single_in}
use Rattle.sfc_replay.specs.sfc_tasks.Multiples.{next_release}
use Rattle.sfc_replay.specs.sfc_tasks.Releases.{interval_in, interval_of}
use Rattle.sfc_replay.specs.sfc_tasks.Calls.{single_of}
use Rattle.sfc_events.specs.History.{History}
use Rattle.sfc_replay.specs.sfc_core.Due.{singles_of}
use Rattle.sfc_replay.specs.sfc_core.PlantState.{state_of}
use Rattle.sfc_c.specs.Codes.{instant_or_none}
use Rattle.sfc_c.specs.Readings.{next_of}

-- what its SINGLE reads
single_there : (plant : PlantData) (h : History) (k : ℕ) (task : Task) → k < length plant.tasks → task ≡ get_or plant.tasks k task
    → single_of (singles_of plant h) k ≡ single_in plant (state_of plant h).changes task.single
unfolding singles_of
single_there plant h k task lt is =
    let read = λ (x : Task). single_in plant (state_of plant h).changes x.single in
    get_or-map read plant.tasks k task false lt ∙ ap read (sym is)

-- its interval
interval_there : (plant : PlantData) (k : ℕ) (task : Task) → k < length plant.tasks → task ≡ get_or plant.tasks k task
    → interval_of plant.tasks k ≡ task.interval
interval_there plant k task lt is = ap interval_in (slice_get_read plant.tasks (length plant.tasks) k task refl lt is)

-- by its own interval, and by what its SINGLE reads
pub next_by : (plant : PlantData) (h : History) (id : TaskId) (t : ℤ) (task : Task) (single : Bool) → id.0 < length plant.tasks
    → task ≡ get_or plant.tasks id.0 task → single ≡ single_in plant (state_of plant h).changes task.single
    → next_of plant h id t ≡ instant_or_none (next_release task.interval single t)
next_by plant h id t task single lt is e =
    ap (λ interval. instant_or_none (next_release interval (single_of (singles_of plant h) id.0) t)) (interval_there plant id.0 task lt is)
    ∙ ap (λ b. instant_or_none (next_release task.interval b t)) (single_there plant h id.0 task lt is ∙ sym e)
