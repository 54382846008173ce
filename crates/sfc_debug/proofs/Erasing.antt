-- What is answered depends only on what the resource was told, hits apart.
use Rattle.std.proofs.Common.{◌≡◌, ◌∙◌, Bool, false, List, [], ◌∷◌, refl, sym, ap, ℤ, Option, Some, None, Result, Ok, Err}
use Rattle.sfc_base.specs.declared.ids.VarId.{VarId}
use Rattle.sfc_plant.specs.Plants.{PlantData}
use Rattle.sfc_events.specs.Commands.{event_of}
use Rattle.sfc_events.specs.declared.command.Answer.TheVariants.{Value}
use Rattle.sfc_events.specs.declared.command.Command.{Command}
use Rattle.sfc_events.specs.declared.command.Command.TheVariants.{Read}
use Rattle.sfc_events.specs.declared.event.Event.{Event}
use Rattle.sfc_events.specs.declared.event.Outcome.{Outcome}
use Rattle.sfc_events.specs.declared.event.Outcome.TheVariants as outcome
use Rattle.sfc_events.specs.declared.refusal.Refusal.{Refusal}
use Rattle.sfc_core.specs.Answers.{value_of}
use Rattle.sfc_core.specs.Verdict as core
use Rattle.sfc_debug.specs.declared.break_condition.BreakCondition.{BreakCondition}
use Rattle.sfc_debug.specs.Histories.{CommandHistory}
use Rattle.sfc_debug.specs.Meaning.{IsAccepted, IsInTime, plain, with_verdict, answers_of, event_answers}
use Rattle.sfc_debug.specs.RunClock.{run_instant}
use Rattle.sfc_debug.specs.States.{state_of, erasure, with_event, hits}
use Rattle.sfc_debug.specs.Verdict.{verdict, verdict_at, verdict_by, answer_by, own_verdict, variable_refusal}
use Rattle.sfc_debug.proofs.Accepting.{in_time}

plain_answer : (hit : Bool) (answer : Result Outcome Refusal) → plain (answer_by hit answer) ≡ answer_by false answer
plain_answer hit (Ok outcome.Done) = refl
plain_answer hit (Ok (outcome.Scanned ran faulted skipped overruns)) = refl
plain_answer hit (Err refusal) = refl

-- the resource's own, at the run instant
of_event : (plant : PlantData) (table : List BreakCondition) (h : CommandHistory) (command : Command) (event : Event) (raw : ℤ) →
    event_of command ≡ Some event → IsInTime plant table h command raw →
    plain (verdict plant table h command raw)
    ≡ answer_by false (core.verdict plant (erasure plant table h) event (run_instant (state_of plant table h).clock command raw))
unfolding verdict
of_event plant table h command event raw is none =
    let state = state_of plant table h in
    let t = run_instant state.clock command raw in
    (λ i. plain (verdict_by (none i) (verdict_at plant table state command t (is i))))
    ∙ plain_answer (hits plant table command t state.points state.events) (core.verdict plant state.events event t)

pub same_answers : (plant : PlantData) (table : List BreakCondition) (h g : CommandHistory) (command : Command) (event : Event) (r s : ℤ) →
    erasure plant table h ≡ erasure plant table g → event_of command ≡ Some event →
    IsInTime plant table h command r → IsInTime plant table g command s →
    run_instant (state_of plant table h).clock command r ≡ run_instant (state_of plant table g).clock command s →
    plain (verdict plant table h command r) ≡ plain (verdict plant table g command s)
same_answers plant table h g command event r s same is in_h in_g instant =
    of_event plant table h command event r is in_h ∙ (λ i. answer_by false (core.verdict plant (same i) event (instant i)))
    ∙ sym (of_event plant table g command event s is in_g)

-- what a variable reads
of_read : (plant : PlantData) (table : List BreakCondition) (h : CommandHistory) (id : VarId) (raw : ℤ) →
    IsInTime plant table h (Read id) raw →
    verdict plant table h (Read id) raw ≡ own_verdict (variable_refusal plant id) (Value (value_of plant (erasure plant table h) id))
unfolding verdict
of_read plant table h id raw none =
    λ i. verdict_by (none i) (own_verdict (variable_refusal plant id) (Value (value_of plant (erasure plant table h) id)))

pub same_reads : (plant : PlantData) (table : List BreakCondition) (h g : CommandHistory) (id : VarId) (r s : ℤ) →
    erasure plant table h ≡ erasure plant table g → IsInTime plant table h (Read id) r → IsInTime plant table g (Read id) s →
    verdict plant table h (Read id) r ≡ verdict plant table g (Read id) s
same_reads plant table h g id r s same in_h in_g =
    of_read plant table h id r in_h ∙ ap (λ told. own_verdict (variable_refusal plant id) (Value (value_of plant told id))) same
    ∙ sym (of_read plant table g id s in_g)

-- ---- all answers

-- one more
one_more : (plant : PlantData) (table : List BreakCondition) (h : CommandHistory) (command : Command) (raw : ℤ) (event : Option Event) →
    event_of command ≡ event → IsInTime plant table h command raw →
    answers_of plant table h ≡ event_answers plant (erasure plant table h) →
    with_verdict event (plain (verdict plant table h command raw)) (answers_of plant table h)
    ≡ event_answers plant (with_event event (run_instant (state_of plant table h).clock command raw) (erasure plant table h))
one_more plant table h command raw None is none same = same
one_more plant table h command raw (Some event) is none same =
    λ i. of_event plant table h command event raw is none i ∷ same i

pub all_answers : (plant : PlantData) (table : List BreakCondition) (h : CommandHistory) → IsAccepted plant table h →
    answers_of plant table h ≡ event_answers plant (erasure plant table h)
unfolding state_of
all_answers plant table [] accepted = refl
all_answers plant table (timed ∷ h) accepted =
    one_more plant table h timed.0 timed.1 (event_of timed.0) refl (in_time plant table h timed.0 timed.1 accepted.0)
    (all_answers plant table h accepted.1)
