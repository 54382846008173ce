-- What is known of a command that was accepted.
use Rattle.std.proofs.Common.{◌≡◌, Bool, true, false, not, refl, ap, rules, Option, Some, None, Result, Ok, Err, ℤ, List, [], ◌∷◌, length}
use Rattle.std.specs.Prelude.{IsOk, is_ok}
use Rattle.sfc_plant.specs.Plants.{PlantData}
use Rattle.sfc_events.specs.Commands.{event_of}
use Rattle.sfc_events.specs.declared.command.Answer.{Answer}
use Rattle.sfc_events.specs.declared.command.Command.{Command}
use Rattle.sfc_events.specs.declared.refusal.Refusal.{Refusal}
use Rattle.sfc_core.specs.Verdict.{refused_if, or_then}
use Rattle.sfc_debug.specs.declared.break_condition.BreakCondition.{BreakCondition}
use Rattle.sfc_debug.specs.Histories.{TimedCommand, CommandHistory}
use Rattle.sfc_debug.specs.Meaning.{IsAccepted, IsInTime}
use Rattle.sfc_debug.specs.RunClock.{run_instant}
use Rattle.sfc_debug.specs.States.{state_of}
use Rattle.sfc_debug.specs.Verdict.{verdict, verdict_at, verdict_by, own_verdict, end_refusal, clock_refusal, history_by, after, after_all}

-- ---- refusals

-- neither of two refuses
pub neither : (first second : Option Refusal) → or_then first second ≡ None → (first ≡ None) × (second ≡ None)
neither None second e = (refl, e)
neither (Some refusal) second e = search rules

pub not_refused : (b : Bool) (refusal : Refusal) → refused_if (not b) refusal ≡ None → b ≡ true
not_refused true refusal e = refl
not_refused false refusal e = search rules

-- nothing refused it, and so the answer is there
answered : (refusal : Option Refusal) (answer : Result Answer Refusal) → IsOk (verdict_by refusal answer) → (refusal ≡ None) × IsOk answer
answered None answer ok = (refl, ok)
answered (Some refusal) answer ok = search rules

pub own_granted : (refusal : Option Refusal) (answer : Answer) → IsOk (own_verdict refusal answer) → refusal ≡ None
own_granted None answer ok = refl
own_granted (Some refusal) answer ok = search rules

-- ---- commands

pub in_time : (plant : PlantData) (table : List BreakCondition) (h : CommandHistory) (command : Command) (raw : ℤ) →
    IsOk (verdict plant table h command raw) → IsInTime plant table h command raw
unfolding verdict
in_time plant table h command raw ok = (answered _ _ ok).0

pub by_itself : (plant : PlantData) (table : List BreakCondition) (h : CommandHistory) (command : Command) (raw : ℤ) →
    IsOk (verdict plant table h command raw) →
    IsOk
    (verdict_at plant table (state_of plant table h) command (run_instant (state_of plant table h).clock command raw) (event_of command))
unfolding verdict
by_itself plant table h command raw ok =
    let clock = (state_of plant table h).clock in
    (answered (or_then (end_refusal clock.mode (length h)) (clock_refusal clock command raw)) _ ok).1

-- ---- histories

one_more : (plant : PlantData) (table : List BreakCondition) (h : CommandHistory) (timed : TimedCommand) →
    (v : Result Answer Refusal) → verdict plant table h timed.0 timed.1 ≡ v → IsAccepted plant table h →
    IsAccepted plant table (history_by v timed h)
one_more plant table h timed (Ok answer) is accepted = (ap is_ok is, accepted)
one_more plant table h timed (Err refusal) is accepted = accepted

pub all_accepted : (plant : PlantData) (table : List BreakCondition) (later : List TimedCommand) (h : CommandHistory) →
    IsAccepted plant table h → IsAccepted plant table (after_all plant table h later)
all_accepted plant table [] h accepted = accepted
all_accepted plant table (timed ∷ later) h accepted =
    all_accepted plant table later (after plant table h timed)
    (one_more plant table h timed (verdict plant table h timed.0 timed.1) refl accepted)
