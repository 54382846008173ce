use Rattle.std.proofs.Common.{◌≡◌, ◌≤◌, ◌+◌, take}
use Rattle.sfc_instances.specs.Agreement.{InstancesAgree}
use Rattle.sfc_instances.specs.Singles.{singles_in}
use Rattle.sfc_instances.specs.PlantState.{PlantState}
use Rattle.sfc_instances.proofs.instances.Instances.read_singles.Given as goal

abbrev pub invariant-loop-k : goal.invariant-loop-k
invariant-loop-k l = record {
  low : l.initial.ticks.count ≤ l.ticks.count;
  high : l.ticks.count ≤ l.initial.ticks.count + l.k;
  singles : (state : PlantState) → InstancesAgree l.plant l.self state → take l.k l.singles ≡ take l.k (singles_in l.plant state.changes);
}
