use Rattle.sfc_debug.proofs.Setting.{fits}
use Rattle.sfc_debug.proofs.laws.points.Goals as goal

pub returns-clause-count : goal.returns-clause-count
returns-clause-count c plant table h accepted = (fits plant table h accepted).count

pub returns-clause-there : goal.returns-clause-there
returns-clause-there c plant table h accepted = (fits plant table h accepted).points
