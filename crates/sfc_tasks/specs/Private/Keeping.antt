-- What is kept of a task in place of its releases.
use Rattle.std.specs.Prelude.{ℕ, ◌≡◌, ◌≢◌, ◌<◌, ◌-◌, ◌*◌, ◌^◌, Bool, cond, List, [], ◌++◌, length, map, ℤ, pos, negsuc, int_lt, unsigned_abs, Option, Some, None, slice_get, slice_index_or}
use Rattle.std.specs.List.{range_with_len}
use Rattle.sfc_plant.specs.declared.task.Task.{Task}
use Rattle.sfc_tasks.specs.declared.ranking.Waiting.{Waiting}
use Rattle.sfc_tasks.specs.declared.task_slot.TaskSlot.{TaskSlot}
use Rattle.sfc_tasks.specs.Multiples.{multiples_to, multiples_between}
use Rattle.sfc_tasks.specs.Calls.{Call}
use Rattle.sfc_tasks.specs.Releases.{first_of, beyond_first, capped, waits_since}
use Rattle.sfc_tasks.specs.Pick.{Rank, RanksBefore, priority_in}

-- the least multiple after t, however late; the greatest number where there is no interval
abbrev pub upcoming_after : ℤ → ℤ → ℕ
upcoming_after interval t = cond (int_lt (pos 0) interval) (multiples_to interval t * unsigned_abs interval) (2 ^ 64 - 1)

-- of a task with which nothing was done yet
abbrev pub empty_slot : ℤ → ℕ → TaskSlot
empty_slot interval priority = record {
  interval = interval;
  priority = priority;
  next = upcoming_after interval (negsuc 0);
  since = None;
  more = 0;
  overruns = 0;
}

-- of no task
abbrev pub blank_slot : TaskSlot
blank_slot = record { interval = pos 0; priority = 0; next = 0; since = None; more = 0; overruns = 0 }

abbrev pub slot_at : List TaskSlot → ℕ → TaskSlot
slot_at slots k = slice_index_or slots k blank_slot

-- the first of these releases, and how many there are beyond it
pub record HoldsReleases (slot : TaskSlot) (us : List ℤ) : Type 0 where
  pub since : slot.since ≡ first_of us
  pub more : slot.more ≡ capped (beyond_first us)

-- its next multiple is the one after `last`
abbrev pub IsAhead : TaskSlot → ℤ → Type 0
IsAhead slot last = slot.next ≡ upcoming_after slot.interval last

-- so is that of each of the first n
abbrev pub AreAhead : List TaskSlot → ℕ → ℤ → Type 0
AreAhead slots n last = (k : ℕ) → k < n → IsAhead (slot_at slots k) last

-- it is the slot of the same task, with the same overruns
pub record SameTask (old new : TaskSlot) : Type 0 where
  pub interval : new.interval ≡ old.interval
  pub priority : new.priority ≡ old.priority
  pub overruns : new.overruns ≡ old.overruns

-- it has these releases more
pub record Gains (us : List ℤ) (old new : TaskSlot) : Type 0 where
  pub same : SameTask old new
  pub agrees : (waited : List ℤ) → HoldsReleases old waited → HoldsReleases new (waited ++ us)

-- what an interval releases from `last` to t
abbrev pub elapsed_releases : ℤ → ℤ → ℤ → Bool → List ℤ
elapsed_releases interval last t single = cond single [] (multiples_between interval last t)

abbrev pub rank_at : List TaskSlot → ℕ → ℤ → Rank
rank_at slots k since = record { priority = (slot_at slots k).priority; since = since; number = k }

-- of the first n tasks, k waits and ranks before each other that waits
pub record IsFirst (slots : List TaskSlot) (n k : ℕ) : Type 0 where
  pub number : k < n
  pub since : ℤ
  pub waits : (slot_at slots k).since ≡ Some since
  pub first : (j : ℕ) (other : ℤ) → j < n → j ≢ k → (slot_at slots j).since ≡ Some other
      → RanksBefore (rank_at slots k since) (rank_at slots j other)

-- the first of the first n tasks, if one waits
abbrev pub FirstOf : List TaskSlot → ℕ → Option ℕ → Type 0
FirstOf slots n None = (j : ℕ) → j < n → (slot_at slots j).since ≡ None
FirstOf slots n (Some k) = IsFirst slots n k

-- it is that one, and waits so
pub record IsBest (slots : List TaskSlot) (n : ℕ) (best : Waiting) : Type 0 where
  pub first : IsFirst slots n best.number
  pub since : (slot_at slots best.number).since ≡ Some best.since
  pub priority : (slot_at slots best.number).priority ≡ best.priority

abbrev pub BestOf : List TaskSlot → ℕ → Option Waiting → Type 0
BestOf slots n None = FirstOf slots n None
BestOf slots n (Some best) = IsBest slots n best

-- a slot with what the calls give task k, and such slots of all tasks
abbrev pub slot_by : List Task → List Call → ℕ → TaskSlot
slot_by tasks calls k = record {
  interval = pos 0;
  priority = priority_in (slice_get tasks k);
  next = 0;
  since = waits_since tasks calls k;
  more = 0;
  overruns = 0;
}

unfoldable pub slots_of : List Task → List Call → List TaskSlot
slots_of tasks calls = map (slot_by tasks calls) (range_with_len 0 (length tasks))
