use Rattle.sfc_replay.specs.sfc_instances.Agreement.{AreInstancesOf, InstancesAgree}
use Rattle.sfc_replay.specs.sfc_instances.PlantState.{PlantState}
use Rattle.sfc_cover.specs.Private.Scanning.{Follows}
use Rattle.sfc_cover.specs.Stages.{IsWatchOf}
use Rattle.sfc_cover.proofs.shadow.scan_task.Given as goal

abbrev pub invariant-loop-k : goal.invariant-loop-k
invariant-loop-k l = record {
  sizes : AreInstancesOf l.plant l.instances;
  watch : IsWatchOf l.plant l.watch;
  follows : (state : PlantState) → InstancesAgree l.plant l.initial.instances state → Follows l.plant l.task l.t state l.k l.instances;
}
