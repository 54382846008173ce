-- What later answers need of how a program instance came to stand.
use Rattle.std.specs.Prelude.{ℕ, List, ℤ, Option}
use Rattle.sfc_tables.specs.Tables.{Tabled}
use Rattle.sfc_evolve.specs.Past as evolve
use Rattle.sfc_evolve.specs.Past.{StepsPast, steps_past}
use Rattle.sfc_action.specs.Past as action
use Rattle.sfc_action.specs.Past.{ActionPast, controls_past}
use Rattle.sfc_instance.specs.declared.fault_place.FaultPlace.{FaultPlace}
use Rattle.sfc_instance.specs.declared.scan_fault.ScanFault.{ScanFault}
use Rattle.sfc_instance.specs.declared.program.Program.{Program}
use Rattle.sfc_instance.specs.Life.{InstanceState, evolution_scans, control_scans, latest_instant}
use Rattle.sfc_instance.specs.Answers.{scan_count}
use Rattle.sfc_instance.specs.Agreement.{place_in}

-- the pasts of its steps and of its action control; how many scans its life has had, and the instant of the latest; the fault
-- that ended a scan, if one did, and where it is
pub record InstancePast : Type 0 where
  pub steps : StepsPast
  pub controls : List ActionPast
  pub scans : ℕ
  pub at : ℤ
  pub fault : Option ScanFault
  pub place : Option FaultPlace

abbrev pub instance_past : Tabled → InstanceState → InstancePast
instance_past tables instance_state = record {
  steps = steps_past tables (evolution_scans instance_state.life);
  controls = controls_past tables (control_scans tables instance_state.life);
  scans = scan_count instance_state;
  at = latest_instant instance_state.life;
  fault = instance_state.fault;
  place = instance_state.place;
}

-- the past that it keeps
unfoldable pub past_in : Tabled → Program → InstancePast
past_in tables program = record {
  steps = evolve.past_in tables program.run.now.steps;
  controls = action.past_in tables program.run.now.controls;
  scans = program.scans;
  at = program.at;
  fault = program.fault;
  place = place_in program;
}
