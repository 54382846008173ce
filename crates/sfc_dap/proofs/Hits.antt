-- A script that is played with breakpoints.
use Rattle.std.proofs.Common.{◌≡◌, ◌∙◌, sym, ap, refl, Bool, true, false, List, ◌∷◌, ℤ, pos, ◌+ℤ◌}
use Rattle.std.proofs.Math.IntN.{+ℤ_idr}
use Rattle.sfc_base.specs.declared.ids.TaskId.{TaskId}
use Rattle.sfc_events.specs.declared.command.Command.{Command}
use Rattle.sfc_events.specs.declared.command.Command.TheVariants.{Go, Scan}
use Rattle.sfc_events.specs.declared.event.Event.TheVariants as events
use Rattle.sfc_events.specs.Commands.{event_of}
use Rattle.sfc_plant.specs.Plants.{PlantData}
use Rattle.sfc_debug.specs.declared.break_condition.BreakCondition.{BreakCondition}
use Rattle.sfc_debug.specs.declared.mode.Mode.TheVariants.{Running}
use Rattle.sfc_debug.specs.declared.run_clock.RunClock.{RunClock}
use Rattle.sfc_debug.specs.Histories.{CommandHistory}
use Rattle.sfc_debug.specs.Meaning.{hits_at}
use Rattle.sfc_debug.specs.RunClock.{run_instant}
use Rattle.sfc_debug.specs.States.{DebugState, clock_after, state_of, with_event}
use Rattle.sfc_dap.specs.Alike.{AreAlike}

-- the clock behind a scan that hits nothing, and behind one that hits and Go at the same instant
clock_of_hit : (clock : RunClock) (task : TaskId) (raw t : ℤ) → clock.mode ≡ Running
    → clock_after (Scan task) raw t false clock
    ≡ clock_after Go raw (run_instant (clock_after (Scan task) raw t true clock) Go raw) false (clock_after (Scan task) raw t true clock)
clock_of_hit clock task raw t running =
    let same : t ≡ (t +ℤ pos 0) +ℤ pos 0 = sym (+ℤ_idr (t +ℤ pos 0) ∙ +ℤ_idr t) in
    λ i. record { mode = running i; instant = same i; raw = raw }

pub go_at_once : (plant : PlantData) (table : List BreakCondition) (h g : CommandHistory) (task : TaskId) (raw : ℤ)
    → AreAlike plant table h g → (state_of plant table h).clock.mode ≡ Running
    → hits_at plant table (state_of plant table h) (Scan task) raw ≡ false
    → hits_at plant table (state_of plant table g) (Scan task) raw ≡ true
    → AreAlike plant table ((Scan task, raw) ∷ h) ((Go, raw) ∷ (Scan task, raw) ∷ g)
unfolding state_of
go_at_once plant table h g task raw alike running miss hit =
    let sh : DebugState = state_of plant table h in
    let sg : DebugState = state_of plant table g in
    let behind = λ (clock : RunClock) (b : Bool). clock_after (Scan task) raw (run_instant clock (Scan task) raw) b clock in
    let gone = λ (clock : RunClock) (b : Bool). clock_after Go raw (run_instant (behind clock b) Go raw) false (behind clock b) in
    record {
      clock = ap (behind sh.clock) miss ∙ clock_of_hit sh.clock task raw (run_instant sh.clock (Scan task) raw) running
          ∙ ap (λ (clock : RunClock). gone clock true) alike.clock ∙ ap (gone sg.clock) (sym hit);
      told = λ i. (events.Scan task, run_instant (alike.clock i) (Scan task) raw) ∷ alike.told i;
    }

pub another : (plant : PlantData) (table : List BreakCondition) (h g : CommandHistory) (command : Command) (raw : ℤ)
    → AreAlike plant table h g → hits_at plant table (state_of plant table h) command raw ≡ false
    → hits_at plant table (state_of plant table g) command raw ≡ false
    → AreAlike plant table ((command, raw) ∷ h) ((command, raw) ∷ g)
unfolding state_of
another plant table h g command raw alike miss missed =
    let sh : DebugState = state_of plant table h in
    let sg : DebugState = state_of plant table g in
    let behind = λ (clock : RunClock) (b : Bool). clock_after command raw (run_instant clock command raw) b clock in
    record {
      clock = ap (behind sh.clock) miss ∙ ap (λ (clock : RunClock). behind clock false) alike.clock ∙ ap (behind sg.clock) (sym missed);
      told = λ i. with_event (event_of command) (run_instant (alike.clock i) command raw) (alike.told i);
    }
