-- The releases of a task by the events of a history, and which of them no scan has served (2.7.2).
use Rattle.std.specs.Prelude.{ℕ, ◌≡◌, ◌⊎◌, Bool, true, false, ◌∷◌, ◌++◌, All, ℤ}
use Rattle.sfc_plant.specs.Plants.{PlantData}
use Rattle.sfc_tasks.specs.Calls.{single_of}
use Rattle.sfc_tasks.specs.Meaning.{IsMultipleBetween}
use Rattle.sfc_tasks.specs.Releases.{interval_of}
use Rattle.sfc_events.specs.History.{TimedEvent, History, last_instant}
use Rattle.sfc_core.specs.Due.{singles_of, is_scan_of}

-- what SINGLE of task k reads after a history; FALSE where the task has none
abbrev pub single_after : PlantData → History → ℕ → Bool
single_after plant h k = single_of (singles_of plant h) k

-- u is a multiple of task k's interval, after the latest event and not after t, while SINGLE reads FALSE
pub record IsMultipleUntil (plant : PlantData) (h : History) (k : ℕ) (t u : ℤ) : Type 0 where
  pub off : single_after plant h k ≡ false
  pub multiple : IsMultipleBetween (interval_of plant.tasks k) (last_instant h) t u

-- SINGLE of task k read FALSE before the event, reads TRUE after it, and u is the event's instant
pub record IsRiseBy (plant : PlantData) (h : History) (timed_event : TimedEvent) (k : ℕ) (u : ℤ) : Type 0 where
  pub off : single_after plant h k ≡ false
  pub on : single_after plant (timed_event ∷ h) k ≡ true
  pub at : u ≡ timed_event.1

-- The event brings a release that it doesn't serve itself. A scan serves the multiples until its instant; a rise comes
-- after what the event does, also where that is a scan of the task.
abbrev pub BringsRelease : PlantData → History → TimedEvent → ℕ → ℤ → Type 0
BringsRelease plant h timed_event k u =
    (IsMultipleUntil plant h k timed_event.1 u × (is_scan_of k timed_event.0 ≡ false)) ⊎ IsRiseBy plant h timed_event k u

-- some event brought task k a release at u, and no later one is a scan of the task
pub record IsUnserved (plant : PlantData) (h : History) (k : ℕ) (u : ℤ) : Type 0 where
  pub later : History
  pub timed_event : TimedEvent
  pub earlier : History
  pub splits : h ≡ later ++ timed_event ∷ earlier
  pub brings : BringsRelease plant earlier timed_event k u
  pub unserved : All (λ other. is_scan_of k other.0 ≡ false) later
