use Rattle.std.proofs.Common.{sym}
use Rattle.sfc_action.specs.Private.Failing.{fault_at}
use Rattle.sfc_action.proofs.Failures.{first_none}
use Rattle.sfc_action.proofs.faults.first_fault.Goals as goal

pub returns-then-is_faultless-clause-fault : goal.returns-then-is_faultless-clause-fault
returns-then-is_faultless-clause-fault c =
    sym (first_none (fault_at c.args.inputs.now c.args.stores.now) c.args.associations.now
    (c.requires.faultless c.if-is_faultless.true))
