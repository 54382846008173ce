-- What a table of tasks is told. A history lists the calls, the newest first.
use Rattle.std.specs.Prelude.{ℕ, ◌==◌, Bool, false, List, [], ◌∷◌, ℤ, negsuc, slice_index_or}
use Rattle.sfc_base.specs.declared.ids.TaskId.{TaskId}

pub data Call : Type 0 where
  -- time went on to this instant, and of each task, by number, what its SINGLE read since the instant before
  Elapsed : ℤ → List Bool → Call
  -- what the task's SINGLE reads rose at this instant
  Rose : TaskId → ℤ → Call
  -- a scan of the task served it
  Served : TaskId → Call

-- what the SINGLE of task k reads; a task without one always reads 0
abbrev pub single_of : List Bool → ℕ → Bool
single_of singles k = slice_index_or singles k false

-- the call serves task k
abbrev pub serves : ℕ → Call → Bool
serves k (Elapsed t singles) = false
serves k (Rose task t) = false
serves k (Served task) = task.0 == k

-- how far time has gone on; at first it is before every instant
abbrev pub last_instant : List Call → ℤ
last_instant [] = negsuc 0
last_instant (Elapsed t singles ∷ calls) = t
last_instant (Rose task t ∷ calls) = last_instant calls
last_instant (Served task ∷ calls) = last_instant calls
