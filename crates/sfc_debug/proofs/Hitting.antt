-- When a breakpoint is hit, and what the answer tells of it.
use Rattle.std.proofs.Common.{◌≡◌, ◌∙◌, Bool, true, ◌&&◌, List, ◌∷◌, ℤ, Option, Some, None, Result, Ok, Err, ap, sym, refl, rules}
use Rattle.sfc_base.specs.declared.ids.TaskId.{TaskId}
use Rattle.sfc_plant.specs.Plants.{PlantData}
use Rattle.sfc_events.specs.Commands.{event_of}
use Rattle.sfc_events.specs.History.{History}
use Rattle.sfc_events.specs.declared.command.Command.{Command}
use Rattle.sfc_events.specs.declared.command.Command.TheVariants as commands
use Rattle.sfc_events.specs.declared.event.Event.{Event}
use Rattle.sfc_events.specs.declared.event.Event.TheVariants as events
use Rattle.sfc_events.specs.declared.event.Outcome.{Outcome}
use Rattle.sfc_events.specs.declared.refusal.Refusal.{Refusal}
use Rattle.sfc_core.specs.PlantState.{state_of}
use Rattle.sfc_core.specs.Verdict.{answer, scan_answer, verdict_by}
use Rattle.sfc_debug.specs.declared.break_condition.BreakCondition.{BreakCondition}
use Rattle.sfc_debug.specs.declared.breakpoint.Breakpoint.{Breakpoint}
use Rattle.sfc_debug.specs.Private.Telling.{hit_by}
use Rattle.sfc_debug.specs.States.{hits}

-- it has all that a hit wants but its condition
pub all_but_last : (a b c d : Bool) → a ≡ true → b ≡ true → c ≡ true → (a && b && c && d) ≡ d
all_but_last a b c d is_a is_b is_c =
    ap (λ x. x && b && c && d) is_a ∙ ap (λ x. x && c && d) is_b ∙ ap (λ x. x && d) is_c

-- the event of a scan
event_of_scan : (task : TaskId) (event : Event) → Some (events.Scan task) ≡ Some event → events.Scan task ≡ event
event_of_scan task event e = ap (λ found. or_else found (events.Scan task)) e
  where
    or_else : Option Event → Event → Event
    or_else (Some x) other = x
    or_else None other = other

-- What the resource answers to a scan tells which instances ran.
pub told : (plant : PlantData) (table : List BreakCondition) (points : List Breakpoint) (command : Command) (event : Event) (t : ℤ)
    (h : History) → event_of command ≡ Some event →
    hit_by plant table points command (answer plant h event t) (state_of plant ((event, t) ∷ h)) ≡ hits plant table command t points h
unfolding scan_answer
told plant table points (commands.Scan task) event t h e =
    sym
    (ap (λ ev. hit_by plant table points (commands.Scan task) (answer plant h ev t) (state_of plant ((ev, t) ∷ h)))
    (event_of_scan task event e))
told plant table points (commands.Single task delta) event t h e = refl
told plant table points (commands.Input id v) event t h e = refl
told plant table points (commands.Force id v) event t h e = refl
told plant table points (commands.Release id) event t h e = refl
told plant table points (commands.Reset p) event t h e = refl
told plant table points (commands.Read id) event t h e = refl
told plant table points (commands.Break p point) event t h e = refl
told plant table points (commands.BreakIf p point id) event t h e = refl
told plant table points (commands.Unbreak p point) event t h e = refl
told plant table points commands.Stop event t h e = refl
told plant table points commands.Go event t h e = refl
told plant table points commands.End event t h e = refl
told plant table points commands.Epoch event t h e = refl

-- the answer, where the verdict is no refusal
pub answered : (refusal : Option Refusal) (outcome out : Outcome) → Ok out ≡ verdict_by refusal outcome → out ≡ outcome
answered None outcome out e = ap (λ found. or_else found outcome) e
  where
    or_else : Result Outcome Refusal → Outcome → Outcome
    or_else (Ok x) other = x
    or_else (Err r) other = other
answered (Some refusal) outcome out e = absurd (err_is_no_ok e)
  where
    err_is_no_ok : Ok out ≡ Err refusal → ⊥
    err_is_no_ok path = search rules
