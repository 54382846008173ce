-- Instances beside a debugger, command by command.
use Rattle.std.proofs.Common.{◌≡◌, ℤ, List, [], ◌∷◌, Result, Ok, Err, refl, sym, ap, subst}
use Rattle.std.specs.Prelude.{IsOk}
use Rattle.sfc_plant.specs.Plants.{PlantData}
use Rattle.sfc_replay.specs.sfc_instances.declared.instances.Instances.{Instances}
use Rattle.sfc_replay.specs.sfc_instances.Agreement.{InstancesAgree}
use Rattle.sfc_replay.specs.sfc_instances.PlantState.{opened}
use Rattle.sfc_events.specs.declared.command.Answer.{Answer}
use Rattle.sfc_events.specs.declared.refusal.Refusal.{Refusal}
use Rattle.sfc_replay.specs.sfc_core.PlantState as core
use Rattle.sfc_replay.specs.sfc_debug.declared.debugger.Debugger.{Debugger}
use Rattle.sfc_replay.specs.sfc_debug.Agreement.{Agrees, plant_of, table_of}
use Rattle.sfc_replay.specs.sfc_debug.Histories.{CommandHistory, TimedCommand}
use Rattle.sfc_replay.specs.sfc_debug.States.{state_of, erasure}
use Rattle.sfc_replay.specs.sfc_debug.Steered.{steered_by}
use Rattle.sfc_replay.specs.sfc_debug.Verdict.{verdict, history_by}
use Rattle.sfc_replay.specs.sfc_output.Output.{debugger_of}
use Rattle.sfc_replay.specs.Reports.{HasAnswered}
use Rattle.sfc_cover.specs.Beside.{StandAs, StandBeside}

-- before any command
pub opened_beside : (debugger : Debugger) (plant : PlantData) (instances : Instances) → plant ≡ plant_of debugger → Agrees debugger []
    → InstancesAgree plant instances opened → StandBeside debugger instances []
unfolding state_of core.state_of
opened_beside debugger plant instances same agrees h = record {
  debugger_agrees = agrees;
  instances_agree = subst (λ (p : PlantData). InstancesAgree p instances opened) same h;
}

-- a command that was accepted, of which the instances were told
pub told_beside : (debugger : Debugger) (before told : Instances) (h : CommandHistory) (timed : TimedCommand) (answer : Answer)
    → HasAnswered debugger h timed (Ok answer)
    → ((raw : ℤ) → Agrees debugger ((timed.0, raw) ∷ h) → IsOk (verdict (plant_of debugger) (table_of debugger) h timed.0 raw)
    → InstancesAgree (plant_of debugger) before (core.state_of (plant_of debugger) (erasure (plant_of debugger) (table_of debugger) h))
    → InstancesAgree (plant_of debugger) told (core.state_of (plant_of debugger) (erasure (plant_of debugger) (table_of debugger) ((timed.0, raw) ∷ h))))
    → StandAs (steered_by debugger) before h → StandAs (steered_by debugger) told ((debugger_of (steered_by debugger)).after h timed)
told_beside debugger before told h timed answer has follows stood =
    let one_more : (debugger_of (steered_by debugger)).after h timed ≡ timed ∷ h =
    ap (λ (v : Result Answer Refusal). history_by v timed h) (sym has.verdict) in
    let agrees : Agrees debugger (timed ∷ h) = subst (λ (x : CommandHistory). Agrees debugger x) one_more has.agrees in
    let ok : IsOk (verdict (plant_of debugger) (table_of debugger) h timed.0 timed.1) =
    subst (λ (v : Result Answer Refusal). IsOk v) has.verdict refl in
    subst (λ (x : CommandHistory). StandAs (steered_by debugger) told x) (sym one_more) (follows timed.1 agrees ok stood)

-- and one that was refused
pub refused_beside : (debugger : Debugger) (instances : Instances) (h : CommandHistory) (timed : TimedCommand) (refusal : Refusal)
    → HasAnswered debugger h timed (Err refusal) → StandAs (steered_by debugger) instances h
    → StandAs (steered_by debugger) instances ((debugger_of (steered_by debugger)).after h timed)
refused_beside debugger instances h timed refusal has stood =
    let none_more : (debugger_of (steered_by debugger)).after h timed ≡ h =
    ap (λ (v : Result Answer Refusal). history_by v timed h) (sym has.verdict) in
    subst (λ (x : CommandHistory). StandAs (steered_by debugger) instances x) (sym none_more) stood
