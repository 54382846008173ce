-- What a scan is answered whose turn it is, or is not: the moments have this from what is proved of turns, and compute the rest.
use Rattle.std.proofs.Common.{◌≡◌, arith, ap, refl, length, Bool, ℤ, Option, Some, None, Ok, is_none}
use Rattle.sfc_base.specs.declared.ids.TaskId.{TaskId}
use Rattle.sfc_plant.specs.Plants.{PlantData}
use Rattle.sfc_events.specs.declared.event.Event.TheVariants.{Scan}
use Rattle.sfc_events.specs.declared.refusal.Refusal.{Refusal}
use Rattle.sfc_events.specs.History.{History, last_instant}
use Rattle.sfc_core.specs.Due.{singles_of, calls_at}
use Rattle.sfc_core.specs.Verdict as core
use Rattle.sfc_core.specs.Verdict.{refused_if, instant_refusal, due_refusal, answer}
use Rattle.sfc_core.proofs.Turns.{picked_runs}
use Rattle.sfc_debug.specs.Verdict.{with_hit, answer_by}

abbrev pub task_0 : TaskId
task_0 = record { 0 = 0 }

abbrev pub task_1 : TaskId
task_1 = record { 0 = 1 }

-- since when a task waits that is due
pub since_of : (o : Option ℤ) (refusal : Refusal) → refused_if (is_none o) refusal ≡ None → ℤ
since_of None refusal e = absurd cc
since_of (Some u) refusal e = u

pub waits_of : (o : Option ℤ) (refusal : Refusal) (e : refused_if (is_none o) refusal ≡ None) → o ≡ Some (since_of o refusal e)
unfolding since_of
waits_of None refusal e = absurd cc
waits_of (Some u) refusal e = refl

-- one that is not due doesn't wait
pub idle_of : (o : Option ℤ) (refusal told : Refusal) → refused_if (is_none o) refusal ≡ Some told → o ≡ None
idle_of None refusal told e = refl
idle_of (Some u) refusal told e = absurd cc

-- Where there is one task and it is due, its scan is accepted.
pub sole : (plant : PlantData) (h : History) (t : ℤ) (hit : Bool) → length plant.tasks ≡ 1
    → instant_refusal (last_instant h) t ≡ None → due_refusal plant.tasks (singles_of plant h) (calls_at plant h t) task_0 t ≡ None
    → answer_by hit (core.verdict plant h (Scan task_0) t) ≡ Ok (with_hit hit (answer plant h (Scan task_0) t))
sole plant h t hit one instant due =
    ap (answer_by hit)
    (picked_runs plant h task_0 t instant (record {
      number = omega (arith, one);
      since = since_of _ _ due;
      waits = waits_of _ _ due;
      first = λ j other lt differs waits. absurd (differs (omega (arith, lt, one)));
    }))
