use Rattle.std.proofs.Common.{◌≡◌, ◌∙◌, Ok, Err, length, w64, SFits, to_z-of_z}
use Rattle.sfc_events.specs.Commands.{event_of}
use Rattle.sfc_events.specs.declared.command.Command.TheVariants.{Epoch}
use Rattle.sfc_core.specs.Verdict.{or_then}
use Rattle.sfc_debug.specs.Agreement.{Agrees, plant_of, table_of}
use Rattle.sfc_debug.specs.Private.Ranges.{granted}
use Rattle.sfc_debug.specs.RunClock.{run_instant}
use Rattle.sfc_debug.specs.States.{state_of}
use Rattle.sfc_debug.specs.Verdict.{verdict, verdict_at, end_refusal, clock_refusal}
use Rattle.sfc_debug.proofs.Commands.{refused, goes_on, kept_state, over}
use Rattle.sfc_debug.proofs.debugger.Debugger.epoch_answer.Goals as goal

pub returns-in-Err : goal.returns-in-Err
unfolding Agrees plant_of table_of verdict
returns-in-Err c h a =
    let s = c.args.self.now in
    let fits : SFits w64 c.args.raw = c.ranges.raw in
    let raw = c.args.raw in
    let plant = plant_of s in
    let table = table_of s in
    let state = state_of plant table h in
    let t = run_instant s.clock Epoch raw in
    let refusal = or_then (end_refusal s.clock.mode s.accepted) (clock_refusal s.clock Epoch raw) in
    let why = c.in-Err.refusal in
    let is : Err why ≡ granted refusal t = simp (to_z-of_z, fits) at c.in-Err.ensures.value in
    refused refusal t (verdict_at plant table (kept_state s state.events) Epoch t (event_of Epoch)) why is
    ∙ over plant table s state (length h) Epoch raw a

pub returns-in-Ok : goal.returns-in-Ok
unfolding Agrees plant_of table_of verdict
returns-in-Ok c h a =
    let s = c.args.self.now in
    let fits : SFits w64 c.args.raw = c.ranges.raw in
    let raw = c.args.raw in
    let plant = plant_of s in
    let table = table_of s in
    let state = state_of plant table h in
    let t = run_instant s.clock Epoch raw in
    let refusal = or_then (end_refusal s.clock.mode s.accepted) (clock_refusal s.clock Epoch raw) in
    let is : Ok c.in-Ok.field-0 ≡ granted refusal t = simp (to_z-of_z, fits) at c.in-Ok.ensures.value in
    goes_on refusal t c.in-Ok.field-0 (verdict_at plant table (kept_state s state.events) Epoch t (event_of Epoch)) is
    ∙ over plant table s state (length h) Epoch raw a
