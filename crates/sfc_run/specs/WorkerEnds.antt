-- Why workers ended, and what is told of it (our choice of format).
use Rattle.std.specs.Prelude.{ℕ, ◌≡◌, ◌+◌, Bool, true, false, ◌||◌, List, [], ◌∷◌, ◌++◌, Option, Some, None, is_some, codes, ◌⊎◌}
use Rattle.sfc_base.specs.Writing.{AppendsFront}
use Rattle.sfc_plant.specs.Names.{task_name}
use Rattle.sfc_plant.specs.Plants.{PlantData}
use Rattle.sfc_control.specs.declared.work.Why.{Why}
use Rattle.sfc_control.specs.declared.work.Why.TheVariants.{Closed, Ended, Full, Clock, Memory, Audit}
use Rattle.sfc_control.specs.declared.work.WorkerEnd.{WorkerEnd}
use Rattle.sfc_run.specs.declared.run_faults.RunFaults.{RunFaults}

-- the words for an end before the session's; none where it was the session that ended scans
abbrev pub reason : Why → Option (List ℕ)
reason Closed = None
reason Ended = None
reason Full = Some (codes "HistoryFull")
reason Clock = Some (codes "the clock went back or too far")
reason Memory = Some (codes "out of memory")
reason Audit = Some (codes "AuditMismatch")

abbrev pub is_early : Why → Bool
is_early why = is_some (reason why)

-- the line of a task's end, where there are words for it
abbrev pub end_text : List ℕ → Option (List ℕ) → List ℕ
end_text name None = []
end_text name (Some words) = codes "scans of " ++ name ++ codes " ended: " ++ words ++ codes "\n"

module _ {X : Type 0} where
  -- one of them came early
  abbrev pub any_early : List (WorkerEnd X) → Bool
  any_early [] = false
  any_early (end ∷ ends) = is_early end.why || any_early ends

  -- the lines of these ends, of task k and the ones behind it
  abbrev pub ends_text : PlantData → ℕ → List (WorkerEnd X) → List ℕ
  ends_text plant k [] = []
  ends_text plant k (end ∷ ends) = end_text (task_name plant.tasks k) (reason end.why) ++ ends_text plant (k + 1) ends

  -- It is told of the ends, or a front of that before a fault of the writer, and whether one came early; or memory was refused.
  abbrev pub IsToldOf : PlantData → List (WorkerEnd X) → Option (List ℕ) → Option (List ℕ) → RunFaults → Type 0
  IsToldOf plant ends before after faults =
      (AppendsFront before after (ends_text plant 0 ends) × (faults.ended ≡ any_early ends)) ⊎ (faults.memory ≡ true)
