use Rattle.std.proofs.Common.{arith}
use Rattle.sfc_core.proofs.Bounds.{task_within}
use Rattle.sfc_core.proofs.laws.bounded_scans.Goals as goal

pub returns-clause-due : goal.returns-clause-due
returns-clause-due c plant task = omega (arith, task_within plant task 0 plant.instances)

pub returns-clause-forced : goal.returns-clause-forced
returns-clause-forced c plant task = omega (arith, task_within plant task 0 plant.instances)
