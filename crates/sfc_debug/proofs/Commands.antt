-- What a debugger answers, by its steps, and what it keeps then.
use Rattle.std.proofs.Common.{◌≡◌, ◌∙◌, ℕ, Bool, false, List, ℤ, Option, Some, None, Result, Ok, Err, ap, refl, rules}
use Rattle.sfc_plant.specs.Plants.{PlantData}
use Rattle.sfc_events.specs.Commands.{event_of}
use Rattle.sfc_events.specs.History.{History}
use Rattle.sfc_events.specs.declared.command.Answer.{Answer}
use Rattle.sfc_events.specs.declared.command.Command.{Command}
use Rattle.sfc_events.specs.declared.command.Command.TheVariants as commands
use Rattle.sfc_events.specs.declared.event.Event.TheVariants as events
use Rattle.sfc_events.specs.declared.event.Outcome.TheVariants as outcome
use Rattle.sfc_events.specs.declared.instance_set.InstanceSet.{InstanceSet}
use Rattle.sfc_events.specs.declared.refusal.Refusal.{Refusal}
use Rattle.sfc_core.specs.Verdict as core
use Rattle.sfc_core.specs.Verdict.{or_then, scan_answer}
use Rattle.sfc_debug.specs.declared.break_condition.BreakCondition.{BreakCondition}
use Rattle.sfc_debug.specs.declared.debugger.Debugger.{Debugger}
use Rattle.sfc_debug.specs.Agreement.{Keeps}
use Rattle.sfc_debug.specs.Private.Ranges.{granted}
use Rattle.sfc_debug.specs.States.{DebugState, hits}
use Rattle.sfc_debug.specs.Verdict.{verdict_at, verdict_by, verdict_in, answer_by, own_refusal, own_verdict, has_hit}

-- what is answered where the instant was granted, or why it was not
abbrev step : Result ℤ Refusal → Result Answer Refusal → Result Answer Refusal
step (Ok t) answer = answer
step (Err refusal) answer = Err refusal

steps : (refusal : Option Refusal) (t : ℤ) (answer : Result Answer Refusal) → step (granted refusal t) answer ≡ verdict_by refusal answer
steps None t answer = refl
steps (Some refusal) t answer = refl

-- an instant that is not granted
pub refused : (refusal : Option Refusal) (t : ℤ) (answer : Result Answer Refusal) (why : Refusal) → Err why ≡ granted refusal t →
    Err why ≡ verdict_by refusal answer
refused refusal t answer why e = ap (λ x. step x answer) e ∙ steps refusal t answer

-- one that is
pub goes_on : (refusal : Option Refusal) (t found : ℤ) (answer : Result Answer Refusal) → Ok found ≡ granted refusal t →
    answer ≡ verdict_by refusal answer
goes_on refusal t found answer e = ap (λ x. step x answer) e ∙ steps refusal t answer

pub instant_is : (refusal : Option Refusal) (t found : ℤ) → Ok found ≡ granted refusal t → found ≡ t
instant_is None t found e = ap (λ x. instant_or x t) e
  where
    instant_or : Result ℤ Refusal → ℤ → ℤ
    instant_or (Ok x) other = x
    instant_or (Err why) other = other
instant_is (Some why) t found e = absurd (no_instant e)
  where
    no_instant : Ok found ≡ Err why → ⊥
    no_instant path = search rules

-- with what the debugger keeps
abbrev pub kept_state : Debugger → History → DebugState
kept_state debugger h = record { clock = debugger.clock; points = debugger.points; events = h }

pub over : (plant : PlantData) (table : List BreakCondition) (debugger : Debugger) (state : DebugState) (n : ℕ) (command : Command) (raw : ℤ) →
    Keeps debugger state n →
    verdict_in plant table (kept_state debugger state.events) debugger.accepted command raw ≡ verdict_in plant table state n command raw
over plant table debugger state n command raw k =
    λ i. verdict_in plant table (record { clock = k.clock i; points = k.points i; events = state.events }) (k.accepted i) command raw

-- ---- hits

abbrev pub hit_in : Result Answer Refusal → Bool
hit_in (Ok answer) = has_hit answer
hit_in (Err why) = false

-- the resource's answer to a scan tells of the hit that is put to it
scan_hit : (hit : Bool) (refusal : Option Refusal) (ran faulted skipped : InstanceSet) (overruns : ℕ) (answer : Answer) →
    Ok answer ≡ answer_by hit (core.verdict_by refusal (outcome.Scanned ran faulted skipped overruns)) → has_hit answer ≡ hit
scan_hit hit None ran faulted skipped overruns answer e = ap hit_in e
scan_hit hit (Some why) ran faulted skipped overruns answer e = absurd (no_answer e)
  where
    no_answer : Ok answer ≡ Err why → ⊥
    no_answer path = search rules

-- the answer to another event tells of none
done_hit : (refusal : Option Refusal) (answer : Answer) →
    Ok answer ≡ answer_by false (core.verdict_by refusal outcome.Done) → has_hit answer ≡ false
done_hit None answer e = ap hit_in e
done_hit (Some why) answer e = absurd (no_answer e)
  where
    no_answer : Ok answer ≡ Err why → ⊥
    no_answer path = search rules

-- nor does that to what is no event
own_hit : (refusal : Option Refusal) (own answer : Answer) → has_hit own ≡ false → Ok answer ≡ own_verdict refusal own → has_hit answer ≡ false
own_hit None own answer none e = ap hit_in e ∙ none
own_hit (Some why) own answer none e = absurd (no_answer e)
  where
    no_answer : Ok answer ≡ Err why → ⊥
    no_answer path = search rules

pub told_hit : (plant : PlantData) (table : List BreakCondition) (state : DebugState) (command : Command) (t : ℤ) (answer : Answer) →
    Ok answer ≡ verdict_at plant table state command t (event_of command) →
    has_hit answer ≡ hits plant table command t state.points state.events
unfolding scan_answer
told_hit plant table state (commands.Scan task) t answer e = scan_hit _ (core.first_refusal plant state.events (events.Scan task) t) _ _ _ _ answer e
told_hit plant table state (commands.Single task delta) t answer e =
    scan_hit false (core.first_refusal plant state.events (events.ForcedScan task) t) _ _ _ _ answer e
told_hit plant table state (commands.Input id v) t answer e = done_hit (core.first_refusal plant state.events (events.Input id v) t) answer e
told_hit plant table state (commands.Force id v) t answer e = done_hit (core.first_refusal plant state.events (events.Force id v) t) answer e
told_hit plant table state (commands.Release id) t answer e = done_hit (core.first_refusal plant state.events (events.Release id) t) answer e
told_hit plant table state (commands.Reset p) t answer e = done_hit (core.first_refusal plant state.events (events.Reset p) t) answer e
told_hit plant table state (commands.Read id) t answer e = own_hit (own_refusal plant table state.points (commands.Read id)) _ answer refl e
told_hit plant table state (commands.Break p point) t answer e =
    own_hit (own_refusal plant table state.points (commands.Break p point)) _ answer refl e
told_hit plant table state (commands.BreakIf p point id) t answer e =
    own_hit (own_refusal plant table state.points (commands.BreakIf p point id)) _ answer refl e
told_hit plant table state (commands.Unbreak p point) t answer e =
    own_hit (own_refusal plant table state.points (commands.Unbreak p point)) _ answer refl e
told_hit plant table state commands.Stop t answer e = own_hit None _ answer refl e
told_hit plant table state commands.Go t answer e = own_hit None _ answer refl e
told_hit plant table state commands.End t answer e = own_hit None _ answer refl e
told_hit plant table state commands.Epoch t answer e = own_hit None _ answer refl e
