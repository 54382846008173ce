-- When a task is to be scanned, and how often it was late (2.7.2).
use Rattle.std.specs.Prelude.{ℕ, ◌+◌, ◌-◌, ◌^◌, ◌==◌, min, cond, List, [], ◌∷◌, ◌++◌, length, ℤ, pos}
use Rattle.std.specs.Prelude.{Option, Some, None, slice_get}
use Rattle.sfc_plant.specs.declared.task.Task.{Task}
use Rattle.sfc_tasks.specs.Multiples.{multiples_between}
use Rattle.sfc_tasks.specs.Calls.{Call, Elapsed, Rose, Served, single_of, serves, last_instant}

-- What one call releases for task k, where time had gone on to `last`: each multiple of the interval that it brings
-- while SINGLE reads 0, and each rise of SINGLE.
abbrev pub released : ℤ → ℕ → ℤ → Call → List ℤ
released interval k last (Elapsed t singles) = cond (single_of singles k) [] (multiples_between interval last t)
released interval k last (Rose task t) = cond (task.0 == k) (t ∷ []) []
released interval k last (Served task) = []

-- The releases of task k that wait, in the order in which they came: those since its latest scan, since a scan serves
-- all that wait (our choice).
abbrev pub waiting : ℤ → ℕ → List Call → List ℤ
waiting interval k [] = []
waiting interval k (call ∷ calls) =
    cond (serves k call) [] (waiting interval k calls ++ released interval k (last_instant calls) call)

-- the first of them
abbrev pub first_of : List ℤ → Option ℤ
first_of [] = None
first_of (u ∷ us) = Some u

-- how many there are beyond the first
abbrev pub beyond_first : List ℤ → ℕ
beyond_first us = length us - 1

-- of all scans of task k, how many releases waited beyond the first
abbrev pub late_releases : ℤ → ℕ → List Call → ℕ
late_releases interval k [] = 0
late_releases interval k (call ∷ calls) =
    late_releases interval k calls + cond (serves k call) (beyond_first (waiting interval k calls)) 0

-- a count of 64 bits stays at its greatest value (our choice)
abbrev pub capped : ℕ → ℕ
capped n = min n (2 ^ 64 - 1)

-- the overruns of task k (our choice)
abbrev pub overruns : ℤ → ℕ → List Call → ℕ
overruns interval k calls = capped (late_releases interval k calls)

-- ---- by the tasks of a plant

abbrev pub interval_in : Option Task → ℤ
interval_in None = pos 0
interval_in (Some task) = task.interval

-- the interval of task k; 0 past the last task
abbrev pub interval_of : List Task → ℕ → ℤ
interval_of tasks k = interval_in (slice_get tasks k)

-- since when task k waits, if it does
abbrev pub waits_since : List Task → List Call → ℕ → Option ℤ
waits_since tasks calls k = first_of (waiting (interval_of tasks k) k calls)
