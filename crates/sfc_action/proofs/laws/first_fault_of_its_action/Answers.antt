use Rattle.sfc_action.specs.ActionControl.{fault_of}
use Rattle.sfc_action.proofs.Failures.{first_of}
use Rattle.sfc_action.proofs.laws.first_fault_of_its_action.Goals as goal

pub returns : goal.returns
returns c tables h first e = first_of (λ a. fault_of tables a h) tables.associations first e
