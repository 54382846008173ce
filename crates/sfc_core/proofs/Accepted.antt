-- What an accepted event leaves.
use Rattle.std.proofs.Common.{◌≡◌, ◌∙◌, ℕ, List, ◌∷◌, Bool, Option, Some, None, ℤ, refl, ap, subst}
use Rattle.sfc_plant.specs.Plants.{PlantData}
use Rattle.sfc_instances.specs.sfc_image.declared.image_error.ImageError.{ImageError}
use Rattle.sfc_instances.specs.sfc_image.declared.image_error.ImageError.TheVariants as image
use Rattle.sfc_instances.specs.sfc_image.Answers.{value_fault, release_fault}
use Rattle.sfc_instances.specs.sfc_image.Changes.{Change}
use Rattle.sfc_tasks.specs.Agreement.{TasksAgree}
use Rattle.sfc_tasks.specs.Calls.{Call, Elapsed}
use Rattle.sfc_tasks.specs.declared.table.TaskTable.{TaskTable}
use Rattle.sfc_events.specs.declared.event.Event.{Event}
use Rattle.sfc_events.specs.declared.event.Event.TheVariants.{Scan, ForcedScan, Input, Force, Release, Reset}
use Rattle.sfc_events.specs.declared.event.Outcome.TheVariants.{Scanned}
use Rattle.sfc_events.specs.InstanceSets.{set_of}
use Rattle.sfc_events.specs.declared.refusal.Refusal.{Refusal}
use Rattle.sfc_events.specs.History.{History}
use Rattle.sfc_base.specs.declared.ids.TaskId.{TaskId}
use Rattle.sfc_instances.specs.sfc_instance.declared.scan_end.ScanEnd.TheVariants.{Ran, Faulted}
use Rattle.sfc_instances.specs.declared.bits.Bits.{Bits}
use Rattle.sfc_instances.specs.declared.instances.Instances.{Instances}
use Rattle.sfc_instances.specs.Agreement.{InstancesAgree}
use Rattle.sfc_instances.specs.Ends.{AreBits}
use Rattle.sfc_instances.specs.Singles.{singles_in}
use Rattle.sfc_instances.specs.PlantState.{PlantState}
use Rattle.sfc_core.specs.declared.singles.Singles.{Singles}
use Rattle.sfc_core.specs.PlantState.{after_event, state_of}
use Rattle.sfc_core.specs.Due.{singles_of, calls_of, calls_at, with_rises, with_service}
use Rattle.sfc_core.specs.Answers.{overruns_of}
use Rattle.sfc_core.specs.Keeping.{Keeps}
use Rattle.sfc_core.specs.Verdict.{or_then, of_image, input_refusal, event_refusal, ended, scan_answer, answer}
use Rattle.sfc_core.specs.Private.Naming.{IsTaken}
use Rattle.sfc_core.specs.Private.Ready.{flags_of, IsReady}
use Rattle.sfc_core.specs.Private.Ending.{AreEventBits, scanned, outcome_by}

-- ---- the variables take it

no_fault : (fault : Option ImageError) → of_image fault ≡ None → fault ≡ None
no_fault None e = refl
no_fault (Some image.UnknownVar) e = absurd cc
no_fault (Some image.ValueType) e = absurd cc
no_fault (Some image.NotForced) e = absurd cc

first_none : (a b : Option Refusal) → or_then a b ≡ None → a ≡ None
first_none (Some x) b e = absurd cc
first_none None b e = refl

pub taken : (plant : PlantData) (changes : List Change) (event : Event) → event_refusal plant changes event ≡ None
    → IsTaken plant changes event
taken plant changes (Scan task) e = tt
taken plant changes (ForcedScan task) e = tt
taken plant changes (Input id v) e =
    no_fault (value_fault plant id v) (first_none (of_image (value_fault plant id v)) (input_refusal plant id) e)
taken plant changes (Force id v) e = no_fault (value_fault plant id v) e
taken plant changes (Release id) e = no_fault (release_fault plant changes id) e
taken plant changes (Reset p) e = tt

-- ---- what is kept of it

module _ (plant : PlantData) (event : Event) (t : ℤ) (old new : Instances) (before after : Singles)
    (tasks elapsed served risen : TaskTable)
    (changed : (state : PlantState) → InstancesAgree plant old state → IsTaken plant state.changes event
    → InstancesAgree plant new (after_event plant event t state))
    (read : (state : PlantState) → InstancesAgree plant new state → flags_of after ≡ singles_in plant state.changes)
    (elapses : (calls : List Call) → TasksAgree plant.tasks tasks calls
    → TasksAgree plant.tasks elapsed (Elapsed t (flags_of before) ∷ calls))
    (serves : (calls : List Call) → TasksAgree plant.tasks elapsed calls → TasksAgree plant.tasks served (with_service event calls))
    (rises : (calls : List Call) → TasksAgree plant.tasks served calls
    → TasksAgree plant.tasks risen (with_rises t 0 (flags_of before) (flags_of after) calls))
    (h : History) (agrees : InstancesAgree plant old (state_of plant h)) (tasked : TasksAgree plant.tasks tasks (calls_of plant h))
    (ready : IsReady plant h event before) where
  instances_after : InstancesAgree plant new (state_of plant ((event, t) ∷ h))
  unfolding state_of
  instances_after = changed (state_of plant h) agrees (taken plant (state_of plant h).changes event ready.named)

  read_after : flags_of after ≡ singles_of plant ((event, t) ∷ h)
  unfolding singles_of
  read_after = read (state_of plant ((event, t) ∷ h)) instances_after

  calls_are : with_rises t 0 (flags_of before) (flags_of after) (with_service event (Elapsed t (flags_of before) ∷ calls_of plant h))
      ≡ calls_of plant ((event, t) ∷ h)
  unfolding calls_of
  calls_are =
      ap (λ (xs : List Bool). with_rises t 0 xs (flags_of after) (with_service event (Elapsed t xs ∷ calls_of plant h))) ready.told
      ∙ ap (λ (ys : List Bool). with_rises t 0 (singles_of plant h) ys (with_service event (calls_at plant h t))) read_after

  -- the event is the latest of the history
  pub kept_after : Keeps plant new risen t ((event, t) ∷ h)
  kept_after = record {
    instant = refl;
    instances_agree = instances_after;
    tasked = subst (λ (calls : List Call). TasksAgree plant.tasks risen calls) calls_are (rises _ (serves _ (elapses _ tasked)));
  }

-- ---- what it answers

scan_answered : (plant : PlantData) (h : History) (event : Event) (task : TaskId) (t : ℤ) (bits : Bits)
    → AreBits plant task t (state_of plant h) bits
    → scanned plant.tasks (calls_of plant ((event, t) ∷ h)) bits task ≡ scan_answer plant h event task t
unfolding scan_answer
scan_answered plant h event task t bits are =
    let count : ℕ = overruns_of plant ((event, t) ∷ h) task in
    ap (λ (n : ℕ). Scanned (set_of n) bits.faulted bits.skipped count) are.ran
    ∙ ap (λ (n : ℕ). Scanned (ended Ran plant h task t) (set_of n) bits.skipped count) are.faulted
    ∙ ap (λ (n : ℕ). Scanned (ended Ran plant h task t) (ended Faulted plant h task t) (set_of n) count) are.skipped

pub answered : (plant : PlantData) (h : History) (event : Event) (t : ℤ) (bits : Bits) → AreEventBits plant event t (state_of plant h) bits
    → outcome_by plant.tasks (calls_of plant ((event, t) ∷ h)) bits event ≡ answer plant h event t
answered plant h (Scan task) t bits are = scan_answered plant h (Scan task) task t bits are
answered plant h (ForcedScan task) t bits are = scan_answered plant h (ForcedScan task) task t bits are
answered plant h (Input id v) t bits are = refl
answered plant h (Force id v) t bits are = refl
answered plant h (Release id) t bits are = refl
answered plant h (Reset p) t bits are = refl
