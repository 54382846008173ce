use Rattle.sfc_tasks.proofs.Picking.{picked_is}
use Rattle.sfc_core.specs.Due.{calls_at}
use Rattle.sfc_core.proofs.Turns.{picked_first, picked_runs, waits_not, another_first, idle_refused, behind_refused}
use Rattle.sfc_core.proofs.laws.turns.Goals as goal

pub returns-clause-accepted : goal.returns-clause-accepted
returns-clause-accepted c plant h task t outcome e = picked_first plant h task t outcome e

pub returns-clause-undue : goal.returns-clause-undue
returns-clause-undue c plant h task t next e = waits_not plant h task t next e

pub returns-clause-second : goal.returns-clause-second
returns-clause-second c plant h task first t e =
    picked_is plant.tasks (calls_at plant h t) first (another_first plant h task t first e).is

pub returns-clause-other : goal.returns-clause-other
returns-clause-other c plant h task first t e = (another_first plant h task t first e).other

pub returns-clause-picked : goal.returns-clause-picked
returns-clause-picked c plant h task t instant first = picked_runs plant h task t instant first

pub returns-clause-idle : goal.returns-clause-idle
returns-clause-idle c plant h task t instant lt idle = idle_refused plant h task t instant lt idle

pub returns-clause-behind : goal.returns-clause-behind
returns-clause-behind c plant h task first t since instant lt waits goes_first other =
    behind_refused plant h task t first since instant lt waits goes_first other
