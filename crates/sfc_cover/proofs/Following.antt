-- What an accepted command gives to program instances that stand as the resource does.
use Rattle.std.proofs.Common.{◌≡◌, ◌^◌, ℕ, ◌<◌, ◌≤ℤ◌, ◌||◌, ◌∷◌, Bool, true, false, ℤ, pos, int_lt, List, length, Option, Some, None, Result, Ok, Err, refl, sym, ap, subst, arith, rules}
use Rattle.std.specs.Prelude.{IsOk, nat_lt}
use Rattle.std.proofs.lemmas.Int.{ints}
use Rattle.std.proofs.lemmas.Bool.Decides.{nat_tests}
use Rattle.sfc_plant.specs.Plants.{PlantData}
use Rattle.sfc_replay.specs.sfc_image.Changes.{Change}
use Rattle.sfc_replay.specs.sfc_instances.Agreement.{InstancesAgree}
use Rattle.sfc_replay.specs.sfc_instances.declared.instances.Instances.{Instances}
use Rattle.sfc_replay.specs.sfc_instances.PlantState.{PlantState}
use Rattle.sfc_events.specs.Commands.{event_of}
use Rattle.sfc_events.specs.declared.command.Command.{Command}
use Rattle.sfc_events.specs.declared.event.Event.{Event}
use Rattle.sfc_events.specs.declared.event.Event.TheVariants.{Scan, ForcedScan, Input, Force, Release, Reset}
use Rattle.sfc_events.specs.declared.event.Outcome.{Outcome}
use Rattle.sfc_events.specs.declared.refusal.Refusal.{Refusal}
use Rattle.sfc_events.specs.History.{History, last_instant}
use Rattle.sfc_replay.specs.sfc_core.PlantState as core
use Rattle.sfc_replay.specs.sfc_core.PlantState.{after_event}
use Rattle.sfc_replay.specs.sfc_core.Verdict as events
use Rattle.sfc_replay.specs.sfc_core.Verdict.{refused_if, or_then, instant_refusal, event_refusal, first_refusal, program_refusal, is_out_of_range}
use Rattle.sfc_replay.specs.sfc_core.Private.Naming.{NamesInstance}
use Rattle.sfc_replay.proofs.of_sfc_core.Accepted.{taken}
use Rattle.sfc_replay.specs.sfc_debug.declared.break_condition.BreakCondition.{BreakCondition}
use Rattle.sfc_replay.specs.sfc_debug.Histories.{CommandHistory}
use Rattle.sfc_replay.specs.sfc_debug.RunClock.{run_instant}
use Rattle.sfc_replay.specs.sfc_debug.States.{DebugState, state_of, erasure, hits, with_event}
use Rattle.sfc_replay.specs.sfc_debug.Verdict.{verdict, verdict_at, answer_by}
use Rattle.sfc_replay.proofs.of_sfc_debug.Accepting.{neither, not_refused, by_itself}
use Rattle.sfc_cover.specs.Private.Given.{IsGiven}

-- ---- an event that is accepted may be given

unrefused : (b : Bool) (refusal : Refusal) → refused_if b refusal ≡ None → b ≡ false
unrefused false refusal e = refl
unrefused true refusal e = absurd cc

neither_true : (b c : Bool) → (b || c) ≡ false → (b ≡ false) × (c ≡ false)
neither_true false c e = (refl, e)
neither_true true c e = absurd cc

at_least : (x y : ℤ) → int_lt x y ≡ false → y ≤ℤ x
at_least x y e = omega (arith, ints)

in_range : (last t : ℤ) → instant_refusal last t ≡ None → (pos 0 ≤ℤ t) × (t ≤ℤ pos (2 ^ 62))
in_range last t e =
    let within = neither_true (int_lt t (pos 0)) (int_lt (pos (2 ^ 62)) t) (unrefused (is_out_of_range t) _ (neither _ _ e).0) in
    (at_least t (pos 0) within.0, at_least (pos (2 ^ 62)) t within.1)

below : (i n : ℕ) → nat_lt i n ≡ true → i < n
below i n e = grind (arith, nat_tests)

named : (plant : PlantData) (changes : List Change) (event : Event) → event_refusal plant changes event ≡ None
    → NamesInstance (length plant.instances) event
named plant changes (Scan task) e = tt
named plant changes (ForcedScan task) e = tt
named plant changes (Input id v) e = tt
named plant changes (Force id v) e = tt
named plant changes (Release id) e = tt
named plant changes (Reset p) e = below p.0 (length plant.instances) (not_refused (nat_lt p.0 (length plant.instances)) _ e)

unrefused_outcome : (refusal : Option Refusal) (outcome : Outcome) → IsOk (events.verdict_by refusal outcome) → refusal ≡ None
unrefused_outcome None outcome ok = refl
unrefused_outcome (Some refusal) outcome ok = search rules

given_event : (plant : PlantData) (h : History) (event : Event) (t : ℤ) → IsOk (events.verdict plant h event t)
    → IsGiven plant (core.state_of plant h).changes event t
unfolding first_refusal
given_event plant h event t ok =
    let none = unrefused_outcome (first_refusal plant h event t) (events.answer plant h event t) ok in
    let first = neither (instant_refusal (last_instant h) t) _ none in
    let changes = (core.state_of plant h).changes in
    let second = neither (event_refusal plant changes event) _ first.1 in
    let range = in_range (last_instant h) t first.0 in
    record {
      low = range.0;
      high = range.1;
      instance = named plant changes event second.0;
      taken = taken plant changes event second.0;
    }

-- ---- and so may the event of a command that is accepted

answered : (hit : Bool) (outcome : Result Outcome Refusal) → IsOk (answer_by hit outcome) → IsOk outcome
answered hit (Ok outcome) ok = refl
answered hit (Err refusal) ok = search rules

module _ (plant : PlantData) (table : List BreakCondition) (h : CommandHistory) (command : Command) (raw : ℤ)
    (ok : IsOk (verdict plant table h command raw)) where
  abbrev now : DebugState
  now = state_of plant table h

  abbrev at : ℤ
  at = run_instant now.clock command raw

  given : (event : Event) → event_of command ≡ Some event → IsGiven plant (core.state_of plant (erasure plant table h)).changes event at
  given event is =
      let own : IsOk (verdict_at plant table now command at (Some event)) =
      subst (λ (o : Option Event). IsOk (verdict_at plant table now command at o)) is (by_itself plant table h command raw ok) in
      given_event plant now.events event at
      (answered (hits plant table command at now.points now.events) (events.verdict plant now.events event at) own)

  -- the events of the resource go on by that of the command
  told : (event : Event) → event_of command ≡ Some event → core.state_of plant (erasure plant table ((command, raw) ∷ h))
      ≡ after_event plant event at (core.state_of plant (erasure plant table h))
  unfolding state_of core.state_of
  told event is = ap (λ (o : Option Event). core.state_of plant (with_event o at now.events)) is

  untold : event_of command ≡ None → core.state_of plant (erasure plant table ((command, raw) ∷ h)) ≡ core.state_of plant (erasure plant table h)
  unfolding state_of
  untold is = ap (λ (o : Option Event). core.state_of plant (with_event o at now.events)) is

  -- where instances are told the event at the run instant, they stand as the resource does after the command
  pub event_followed : (event : Event) (old new : Instances) (t : ℤ) → event_of command ≡ Some event
      → t ≡ (state_of plant table ((command, raw) ∷ h)).clock.instant
      → ((state : PlantState) → InstancesAgree plant old state → IsGiven plant state.changes event t
      → InstancesAgree plant new (after_event plant event t state))
      → InstancesAgree plant old (core.state_of plant (erasure plant table h))
      → InstancesAgree plant new (core.state_of plant (erasure plant table ((command, raw) ∷ h)))
  unfolding state_of
  event_followed event old new t is same follows agrees =
      subst (λ (s : PlantState). InstancesAgree plant new s) (sym (told event is))
      (subst (λ (x : ℤ). InstancesAgree plant new (after_event plant event x (core.state_of plant (erasure plant table h)))) same
      (follows (core.state_of plant (erasure plant table h)) agrees
      (subst (λ (x : ℤ). IsGiven plant (core.state_of plant (erasure plant table h)).changes event x) (sym same) (given event is))))

  -- and where there is none, they stand as it does
  pub nothing_followed : (instances : Instances) → event_of command ≡ None
      → InstancesAgree plant instances (core.state_of plant (erasure plant table h))
      → InstancesAgree plant instances (core.state_of plant (erasure plant table ((command, raw) ∷ h)))
  nothing_followed instances is agrees = subst (λ (s : PlantState). InstancesAgree plant instances s) (sym (untold is)) agrees
