use Rattle.sfc_action.proofs.Pasts.{past_cut_at, fault_cut}
use Rattle.sfc_action.proofs.laws.cut.Goals as goal

pub returns-clause-past : goal.returns-clause-past
returns-clause-past c tables h other later e = past_cut_at tables h other later e

pub returns-clause-fault : goal.returns-clause-fault
returns-clause-fault c tables scan h other sound e = fault_cut tables scan h other sound e
