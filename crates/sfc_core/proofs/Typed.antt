-- Variables have values of their types, whatever events come.
use Rattle.std.proofs.Common.{◌≡◌, Bool, true, false, cond, ℤ, List, [], ◌∷◌, Option, Some, None, Result, Ok, Err, IsTrue, refl}
use Rattle.std.proofs.lemmas.List.Elements.{All-head, All-tail}
use Rattle.sfc_base.specs.Values.{type_of, is_same_type}
use Rattle.sfc_base.specs.declared.ids.VarId.{VarId}
use Rattle.sfc_base.specs.declared.value.Value.{Value}
use Rattle.sfc_base.specs.declared.var_type.VarType.{VarType}
use Rattle.sfc_base.specs.declared.var_type.VarType.TheVariants.{Bool as BoolType, Int, Dint, Time}
use Rattle.sfc_expr.specs.Types.{IsOf, lies_in_range}
use Rattle.sfc_plant.specs.Plants.{PlantData}
use Rattle.sfc_instances.specs.sfc_image.declared.image_error.ImageError.TheVariants.{UnknownVar, ValueType}
use Rattle.sfc_instances.specs.sfc_image.Answers.{is_variable, value_fault}
use Rattle.sfc_instances.specs.sfc_image.Changes.{Stored, Forced, Released}
use Rattle.sfc_instances.specs.sfc_image.Values.{type_of_variable}
use Rattle.sfc_instances.specs.sfc_instance.Types.{IsInstant}
use Rattle.sfc_instances.specs.PlantState.{PlantState}
use Rattle.sfc_instances.specs.Types.{IsTypedPlant, IsTypedState}
use Rattle.sfc_instances.proofs.Typed.{opened_typed, task_typed, change_typed, reset_typed}
use Rattle.sfc_events.specs.declared.event.Event.{Event}
use Rattle.sfc_events.specs.declared.event.Event.TheVariants.{Scan, ForcedScan, Input, Force, Release, Reset}
use Rattle.sfc_events.specs.declared.event.Outcome.{Outcome}
use Rattle.sfc_events.specs.declared.refusal.Refusal.{Refusal}
use Rattle.sfc_events.specs.History.{TimedEvent, History}
use Rattle.sfc_core.specs.PlantState.{after_event, state_of}
use Rattle.sfc_core.specs.Verdict.{or_then, event_refusal, first_refusal, verdict_by, verdict, history_by, after, after_all}
use Rattle.sfc_core.specs.Types.{GivesInRange, GiveInRange}
use Rattle.sfc_core.specs.Private.Naming.{IsTaken}
use Rattle.sfc_core.proofs.Accepted.{taken}
use Rattle.sfc_core.proofs.Ordered.{comes_after}

-- ---- an accepted event

same_is : (t u : VarType) → is_same_type t u ≡ true → t ≡ u
same_is BoolType BoolType e = refl
same_is Int Int e = refl
same_is Dint Dint e = refl
same_is Time Time e = refl
same_is BoolType _ e = absurd cc
same_is Int _ e = absurd cc
same_is Dint _ e = absurd cc
same_is Time _ e = absurd cc

fine_type : (there same : Bool) → cond there (cond same None (Some ValueType)) (Some UnknownVar) ≡ None → same ≡ true
fine_type true true e = refl
fine_type true false e = absurd cc
fine_type false same e = absurd cc

given_typed : (plant : PlantData) (id : VarId) (v : Value) → value_fault plant id v ≡ None → IsTrue (lies_in_range v)
    → IsOf (type_of_variable plant id.0) v
given_typed plant id v e range =
    let same = is_same_type (type_of v) (type_of_variable plant id.0) in
    (same_is (type_of v) (type_of_variable plant id.0) (fine_type (is_variable plant id) same e), range)

second_none : (first second third : Option Refusal) (says outcome : Outcome)
    → verdict_by (or_then first (or_then second third)) says ≡ Ok outcome → second ≡ None
second_none (Some r) second third says outcome e = absurd cc
second_none None (Some r) third says outcome e = absurd cc
second_none None None third says outcome e = refl

unrefused : (plant : PlantData) (h : History) (timed_event : TimedEvent) (outcome : Outcome)
    → verdict plant h timed_event.0 timed_event.1 ≡ Ok outcome → event_refusal plant (state_of plant h).changes timed_event.0 ≡ None
unfolding first_refusal
unrefused plant h timed_event outcome e =
    second_none _ (event_refusal plant (state_of plant h).changes timed_event.0) _ _ outcome e

module _ (plant : PlantData) (sound : IsTypedPlant plant) where
  event_typed : (event : Event) (t : ℤ) (state : PlantState) → IsInstant t → IsTaken plant state.changes event → GivesInRange event
      → IsTypedState plant state → IsTypedState plant (after_event plant event t state)
  event_typed (Scan task) t state here takes range typed = task_typed plant sound task t here state typed
  event_typed (ForcedScan task) t state here takes range typed = task_typed plant sound task t here state typed
  event_typed (Input id v) t state here takes range typed =
      change_typed plant (Stored id v) state (given_typed plant id v takes range) typed
  event_typed (Force id v) t state here takes range typed =
      change_typed plant (Forced id v) state (given_typed plant id v takes range) typed
  event_typed (Release id) t state here takes range typed = change_typed plant (Released id) state tt typed
  event_typed (Reset p) t state here takes range typed = reset_typed plant p state typed

  accepted_typed : (h : History) (timed_event : TimedEvent) (outcome : Outcome) → verdict plant h timed_event.0 timed_event.1 ≡ Ok outcome
      → GivesInRange timed_event.0 → IsTypedState plant (state_of plant h) → IsTypedState plant (state_of plant (timed_event ∷ h))
  unfolding state_of
  accepted_typed h timed_event outcome e range typed =
      let comes = comes_after plant h timed_event outcome e in
      event_typed timed_event.0 timed_event.1 (state_of plant h) (comes.low, comes.high)
      (taken plant (state_of plant h).changes timed_event.0 (unrefused plant h timed_event outcome e)) range typed

  typed_by : (h : History) (timed_event : TimedEvent) (answer : Result Outcome Refusal)
      → ((outcome : Outcome) → answer ≡ Ok outcome → IsTypedState plant (state_of plant (timed_event ∷ h)))
      → IsTypedState plant (state_of plant h) → IsTypedState plant (state_of plant (history_by answer h timed_event))
  typed_by h timed_event (Ok outcome) more typed = more outcome refl
  typed_by h timed_event (Err refusal) more typed = typed

  events_typed : (events : List TimedEvent) (h : History) → GiveInRange events → IsTypedState plant (state_of plant h)
      → IsTypedState plant (state_of plant (after_all plant h events))
  events_typed [] h range typed = typed
  events_typed (timed_event ∷ events) h range typed =
      events_typed events (after plant h timed_event) (All-tail (λ (x : TimedEvent). GivesInRange x.0) timed_event events range)
      (typed_by h timed_event (verdict plant h timed_event.0 timed_event.1)
      (λ outcome e. accepted_typed h timed_event outcome e (All-head (λ (x : TimedEvent). GivesInRange x.0) timed_event events range) typed)
      typed)

  opening_typed : IsTypedState plant (state_of plant [])
  unfolding state_of
  opening_typed = opened_typed plant

  pub all_typed : (events : List TimedEvent) → GiveInRange events → IsTypedState plant (state_of plant (after_all plant [] events))
  all_typed events range = events_typed events [] range opening_typed
