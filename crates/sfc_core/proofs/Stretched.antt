-- What the tasks are told, cut at the scans of a task.
use Rattle.std.proofs.Common.{◌≡◌, ℕ, suc, ◌+◌, arith, Bool, true, false, not, ◌&&◌, cond, List, [], ◌∷◌, length, count_by, append-nil, refl, sym, ◌∙◌, subst, ℤ, ◌<ℤ◌, AllPairs}
use Rattle.std.proofs.lemmas.List.Sums.{sum_by-cons}
use Rattle.sfc_base.specs.declared.ids.TaskId.{TaskId}
use Rattle.sfc_plant.specs.Plants.{PlantData}
use Rattle.sfc_tasks.specs.Calls.{Call, Elapsed, Rose, Served, serves}
use Rattle.sfc_tasks.specs.Releases.{waiting, capped, interval_of}
use Rattle.sfc_tasks.specs.Meaning as tasks
use Rattle.sfc_tasks.specs.Stretches.{AreStretches, releases_in, beyond_firsts, serving_scans, multiples_in}
use Rattle.sfc_tasks.proofs.Cutting.{one_each}
use Rattle.sfc_tasks.proofs.Counting.{overruns_are, each_counts}
use Rattle.sfc_tasks.proofs.Apart.{each_once}
use Rattle.sfc_events.specs.declared.event.Event.{Event}
use Rattle.sfc_events.specs.declared.event.Event.TheVariants.{Scan, ForcedScan, Input, Force, Release, Reset}
use Rattle.sfc_events.specs.History.{TimedEvent, History}
use Rattle.sfc_core.specs.Due.{singles_of, calls_of, with_rise, with_rises, with_service, is_scan_of}
use Rattle.sfc_core.specs.Answers.{overruns_of}
use Rattle.sfc_core.specs.Order.{AreInOrder}
use Rattle.sfc_core.proofs.Ordered.{calls_in_order}

pub late_counted : (plant : PlantData) (h : History) (task : TaskId) (since : List Call) (ended : List (List Call))
    → AreStretches task.0 (calls_of plant h) since ended
    → overruns_of plant h task ≡ capped (beyond_firsts (interval_of plant.tasks task.0) task.0 ended)
late_counted plant h task since ended are =
    overruns_are (interval_of plant.tasks task.0) task.0 (calls_of plant h) since ended are

pub each_counted : (plant : PlantData) (h : History) (task : TaskId) (since : List Call) (ended : List (List Call))
    → AreStretches task.0 (calls_of plant h) since ended
    → length (releases_in (interval_of plant.tasks task.0) task.0 [] (calls_of plant h))
    ≡ beyond_firsts (interval_of plant.tasks task.0) task.0 ended + serving_scans (interval_of plant.tasks task.0) task.0 ended
    + length (waiting (interval_of plant.tasks task.0) task.0 (calls_of plant h))
each_counted plant h task since ended are =
    each_counts (interval_of plant.tasks task.0) task.0 (calls_of plant h) since ended are

pub multiples_once : (plant : PlantData) (h : History) (task : TaskId) → AreInOrder h
    → AllPairs (λ u v. u <ℤ v) (multiples_in (interval_of plant.tasks task.0) task.0 [] (calls_of plant h))
multiples_once plant h task ordered =
    each_once (interval_of plant.tasks task.0) task.0 [] (calls_of plant h)
    (subst (λ (x : List Call). tasks.AreInOrder x) (sym (append-nil (calls_of plant h))) (calls_in_order plant h ordered))

-- ---- the calls that serve a task are its scans

abbrev counts : ℕ → List Call → ℕ
counts k calls = count_by (serves k) calls

abbrev scan_counts : ℕ → History → ℕ
scan_counts k h = count_by (λ (timed_event : TimedEvent). is_scan_of k timed_event.0) h

one_more : (k : ℕ) (call : Call) (calls : List Call) → counts k (call ∷ calls) ≡ cond (serves k call) 1 0 + counts k calls
one_more k call calls = sum_by-cons (λ (x : Call). cond (serves k x) 1 0) call calls

by_rise : (t : ℤ) (k j : ℕ) (b : Bool) (calls : List Call)
    → counts k (cond b (Rose (record { 0 = j }) t ∷ calls) calls) ≡ counts k calls
by_rise t k j true calls = let more = one_more k (Rose (record { 0 = j }) t) calls in omega (arith, more)
by_rise t k j false calls = refl

by_rises : (t : ℤ) (k j : ℕ) (before after : List Bool) (calls : List Call)
    → counts k (with_rises t j before after calls) ≡ counts k calls
by_rises t k j [] after calls = refl
by_rises t k j (x ∷ before) [] calls = refl
by_rises t k j (x ∷ before) (y ∷ after) calls =
    by_rises t k (suc j) before after (with_rise t j x y calls) ∙ by_rise t k j (not x && y) calls

by_service : (k : ℕ) (event : Event) (calls : List Call)
    → counts k (with_service event calls) ≡ cond (is_scan_of k event) 1 0 + counts k calls
by_service k (Scan task) calls = one_more k (Served task) calls
by_service k (ForcedScan task) calls = one_more k (Served task) calls
by_service k (Input id v) calls = omega arith
by_service k (Force id v) calls = omega arith
by_service k (Release id) calls = omega arith
by_service k (Reset p) calls = omega arith

by_scans : (plant : PlantData) (k : ℕ) (h : History) → counts k (calls_of plant h) ≡ scan_counts k h
unfolding calls_of
by_scans plant k [] = refl
by_scans plant k (timed_event ∷ h) =
    let told_calls : List Call = Elapsed timed_event.1 (singles_of plant h) ∷ calls_of plant h in
    let rises : counts k (calls_of plant (timed_event ∷ h)) ≡ counts k (with_service timed_event.0 told_calls) =
    by_rises timed_event.1 k 0 (singles_of plant h) (singles_of plant (timed_event ∷ h)) (with_service timed_event.0 told_calls) in
    let service : counts k (with_service timed_event.0 told_calls) ≡ cond (is_scan_of k timed_event.0) 1 0 + counts k told_calls = by_service k timed_event.0 told_calls in
    let elapsed : counts k told_calls ≡ 0 + counts k (calls_of plant h) =
    one_more k (Elapsed timed_event.1 (singles_of plant h)) (calls_of plant h) in
    let older : counts k (calls_of plant h) ≡ scan_counts k h = by_scans plant k h in
    let more : scan_counts k (timed_event ∷ h) ≡ cond (is_scan_of k timed_event.0) 1 0 + scan_counts k h =
    sum_by-cons (λ (x : TimedEvent). cond (is_scan_of k x.0) 1 0) timed_event h in
    omega (arith, rises, service, elapsed, older, more)

pub scans_counted : (plant : PlantData) (h : History) (task : TaskId) (since : List Call) (ended : List (List Call))
    → AreStretches task.0 (calls_of plant h) since ended → length ended ≡ count_by (λ (timed_event : TimedEvent). is_scan_of task.0 timed_event.0) h
scans_counted plant h task since ended are =
    one_each task.0 (calls_of plant h) since ended are ∙ by_scans plant task.0 h
