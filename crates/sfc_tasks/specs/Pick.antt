-- Which of the tasks that wait is scanned first (2.7.2).
use Rattle.std.specs.Prelude.{ℕ, ◌≡◌, ◌≢◌, ◌<◌, ◌≤◌, nat_lt, ◌==◌, List, length, find, ℤ, ◌≤ℤ◌, int_lt, slice_get}
use Rattle.std.specs.Prelude.{Bool, true, false, ◌&&◌, ◌||◌, Option, Some, None, option_map}
use Rattle.std.specs.List.{list_all, range_with_len}
use Rattle.std.specs.Ordering.{int_eq}
use Rattle.sfc_base.specs.declared.ids.TaskId.{TaskId}
use Rattle.sfc_plant.specs.declared.task.Task.{Task}
use Rattle.sfc_tasks.specs.Calls.{Call}
use Rattle.sfc_tasks.specs.Releases.{waits_since}

-- of a task that waits: its priority, since when it waits, and its number
pub record Rank : Type 0 where
  pub priority : ℕ
  pub since : ℤ
  pub number : ℕ

-- the lowest priority goes first; at the same priority the one that waits longest; then the first in the table
pub record RanksBefore (a b : Rank) : Type 0 where
  pub priority : a.priority ≤ b.priority
  pub since : a.priority ≡ b.priority → a.since ≤ℤ b.since
  pub number : a.priority ≡ b.priority → a.since ≡ b.since → a.number < b.number

-- the same as a test
abbrev pub ranks_before : Rank → Rank → Bool
ranks_before a b =
    nat_lt a.priority b.priority || a.priority == b.priority &&
    (int_lt a.since b.since || int_eq a.since b.since && nat_lt a.number b.number)

abbrev pub priority_in : Option Task → ℕ
priority_in None = 0
priority_in (Some task) = task.priority

abbrev pub rank_of : List Task → ℕ → ℤ → Rank
rank_of tasks k since = record { priority = priority_in (slice_get tasks k); since = since; number = k }

-- a rank is before task j: the task does not wait, or has the rank itself, or ranks after it
abbrev pub is_before_task : List Task → Rank → ℕ → Option ℤ → Bool
is_before_task tasks rank j None = true
is_before_task tasks rank j (Some since) = rank.number == j || ranks_before rank (rank_of tasks j since)

abbrev pub is_before_all : List Task → List Call → Rank → Bool
is_before_all tasks calls rank =
    list_all (λ j. is_before_task tasks rank j (waits_since tasks calls j)) (range_with_len 0 (length tasks))

-- task k, which waits since then, or does not wait, goes first
abbrev pub goes_first_since : List Task → List Call → ℕ → Option ℤ → Bool
goes_first_since tasks calls k None = false
goes_first_since tasks calls k (Some since) = is_before_all tasks calls (rank_of tasks k since)

-- task k waits, and ranks before each other task that waits
abbrev pub goes_first : List Task → List Call → ℕ → Bool
goes_first tasks calls k = goes_first_since tasks calls k (waits_since tasks calls k)

-- the task that goes first, if one waits
unfoldable pub picked : List Task → List Call → Option TaskId
picked tasks calls =
    option_map (λ (k : ℕ). record { 0 = k }) (find (goes_first tasks calls) (range_with_len 0 (length tasks)))

-- ---- the same as relations

-- task k waits, and ranks before each other task that waits
pub record IsPicked (tasks : List Task) (calls : List Call) (k : ℕ) : Type 0 where
  pub number : k < length tasks
  pub since : ℤ
  pub waits : waits_since tasks calls k ≡ Some since
  pub first : (j : ℕ) (other : ℤ) → j < length tasks → j ≢ k → waits_since tasks calls j ≡ Some other
      → RanksBefore (rank_of tasks k since) (rank_of tasks j other)

-- no task waits
abbrev pub NoneWaits : List Task → List Call → Type 0
NoneWaits tasks calls = (k : ℕ) → k < length tasks → waits_since tasks calls k ≡ None
