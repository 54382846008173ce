use Rattle.std.proofs.Common.{◌<◌, ◌≤◌, ◌+◌, ◌^◌, drop}
use Rattle.sfc_instances.specs.Agreement.{AreInstancesOf, InstancesAgree}
use Rattle.sfc_instances.specs.PlantState.{PlantState}
use Rattle.sfc_instances.specs.Work.{task_work}
use Rattle.sfc_instances.specs.Private.Scanning.{Follows}
use Rattle.sfc_instances.proofs.instances.Instances.scan.Given as goal

abbrev pub invariant-loop-k : goal.invariant-loop-k
invariant-loop-k l = record {
  sizes : AreInstancesOf l.plant l.self;
  ran : l.bits.ran.bits < 2 ^ l.k;
  faulted : l.bits.faulted.bits < 2 ^ l.k;
  skipped : l.bits.skipped.bits < 2 ^ l.k;
  low : l.initial.ticks.count ≤ l.ticks.count;
  high :
      l.ticks.count + task_work l.plant l.task l.k (drop l.k l.plant.instances)
      ≤ l.initial.ticks.count + task_work l.plant l.task 0 l.plant.instances;
  follows : (state : PlantState) → InstancesAgree l.plant l.initial.self state → Follows l.plant l.task l.t state l.k l.self l.bits;
}
