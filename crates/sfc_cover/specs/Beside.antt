-- Program instances beside a debugger.
use Rattle.sfc_replay.specs.sfc_instances.declared.instances.Instances.{Instances}
use Rattle.sfc_replay.specs.sfc_instances.Agreement.{AreInstancesOf, InstancesAgree}
use Rattle.sfc_replay.specs.sfc_core.PlantState.{state_of}
use Rattle.sfc_replay.specs.sfc_debug.declared.debugger.Debugger.{Debugger}
use Rattle.sfc_replay.specs.sfc_debug.Agreement.{Agrees}
use Rattle.sfc_replay.specs.sfc_debug.Histories.{CommandHistory}
use Rattle.sfc_replay.specs.sfc_debug.States.{erasure}
use Rattle.sfc_replay.specs.sfc_debug.Steered.{Steered, steered_by}
use Rattle.sfc_cover.specs.declared.follow.Beside.{Beside}
use Rattle.sfc_cover.specs.Stages.{IsWatchOf}

-- they are instances of the plant, and so is what is watched of them
pub record Fits (beside : Beside) (steered : Steered) : Type 0 where
  pub sizes : AreInstancesOf steered.plant beside.instances
  pub watch : IsWatchOf steered.plant beside.watch

-- They stand as a resource of the plant does after these commands: as the events say that it was told, each at its run instant.
abbrev pub StandAs : Steered → Instances → CommandHistory → Type 0
StandAs steered instances h = InstancesAgree steered.plant instances (state_of steered.plant (erasure steered.plant steered.table h))

-- after these commands of the debugger they stand as its resource does
pub record StandBeside (debugger : Debugger) (instances : Instances) (h : CommandHistory) : Type 0 where
  pub debugger_agrees : Agrees debugger h
  pub instances_agree : StandAs (steered_by debugger) instances h
