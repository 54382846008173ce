use Rattle.sfc_debug.proofs.Longer.{state_same, verdict_same}
use Rattle.sfc_debug.proofs.laws.longer_table.Goals as goal

pub returns-clause-stands : goal.returns-clause-stands
returns-clause-stands c plant table more h named = state_same plant table more h named

pub returns-clause-verdict : goal.returns-clause-verdict
returns-clause-verdict c plant table more h command raw named one = verdict_same plant table more h command raw named one
