-- Which on-delays the control blocks have: one for each action and each of its qualifiers with a time.
use Rattle.std.specs.Prelude.{ℕ, ◌==◌, Bool, true, false, cond, ◌&&◌, List, [], ◌∷◌, ◌++◌}
use Rattle.std.specs.List.{list_any}
use Rattle.sfc_base.specs.declared.qualifier.TimedQualifier.{TimedQualifier}
use Rattle.sfc_base.specs.declared.qualifier.TimedQualifier.TheVariants.{Limited, Delayed, StoredDelayed}
use Rattle.sfc_base.specs.declared.qualifier.TimedQualifier.TheVariants.{DelayedStored, StoredLimited}
use Rattle.sfc_plant.specs.declared.association.Qualifier.{Qualifier}
use Rattle.sfc_plant.specs.declared.association.Qualifier.TheVariants.{Timed}
use Rattle.sfc_tables.specs.declared.step_action.StepAction.{StepAction}

abbrev pub same_timed : TimedQualifier → TimedQualifier → Bool
same_timed Limited Limited = true
same_timed Delayed Delayed = true
same_timed StoredDelayed StoredDelayed = true
same_timed DelayedStored DelayedStored = true
same_timed StoredLimited StoredLimited = true
same_timed _ _ = false

-- an on-delay, by its action and its qualifier
pub record Delay : Type 0 where
  pub action : ℕ
  pub qualifier : TimedQualifier

abbrev pub is_delay : ℕ → TimedQualifier → Delay → Bool
is_delay a qualifier delay = (delay.action == a) && same_timed qualifier delay.qualifier

-- these on-delays, and that of an action by its qualifier, if that has a time and it is not among them
abbrev pub with_delay : List Delay → ℕ → Qualifier → List Delay
with_delay delays a (Timed qualifier time) =
    cond (list_any (is_delay a qualifier) delays) delays (delays ++ record { action = a; qualifier = qualifier } ∷ [])
with_delay delays a _ = delays

-- these on-delays, and those of these associations
abbrev pub with_delays : List Delay → List StepAction → List Delay
with_delays delays [] = delays
with_delays delays (x ∷ xs) = with_delays (with_delay delays x.action.0 x.qualifier) xs
