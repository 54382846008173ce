-- What a debugger keeps is the past of its commands.
use Rattle.std.proofs.Common.{◌≡◌, ap}
use Rattle.sfc_core.proofs.Pasts as core
use Rattle.sfc_debug.specs.Agreement.{Agrees, plant_of, table_of}
use Rattle.sfc_debug.specs.Histories.{CommandHistory}
use Rattle.sfc_debug.specs.Openings.{kept_in}
use Rattle.sfc_debug.specs.Past.{DebugPast, debug_past}
use Rattle.sfc_debug.specs.States.{state_of}
use Rattle.sfc_debug.specs.declared.debugger.Debugger.{Debugger}

pub keeps_past : (debugger : Debugger) (h : CommandHistory) → Agrees debugger h →
    kept_in debugger ≡ debug_past (plant_of debugger) (table_of debugger) h
unfolding Agrees plant_of table_of kept_in
keeps_past debugger h k =
    let events = core.keeps_past debugger.resource (state_of (plant_of debugger) (table_of debugger) h).events k.resource in
    (λ i. record { clock = k.clock i; points = k.points i; accepted = k.accepted i; events = events i })

pub past_agrees : (debugger : Debugger) (h : CommandHistory) →
    kept_in debugger ≡ debug_past (plant_of debugger) (table_of debugger) h → Agrees debugger h
unfolding Agrees plant_of table_of kept_in
past_agrees debugger h e = record {
  clock = ap (λ (p : DebugPast). p.clock) e;
  points = ap (λ (p : DebugPast). p.points) e;
  accepted = ap (λ (p : DebugPast). p.accepted) e;
  resource =
      core.past_agrees debugger.resource (state_of (plant_of debugger) (table_of debugger) h).events (ap (λ (p : DebugPast). p.events) e);
}
