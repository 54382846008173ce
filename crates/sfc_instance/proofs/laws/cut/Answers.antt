use Rattle.sfc_instance.proofs.Pasts.{has_tables, scan_same}
use Rattle.sfc_instance.proofs.laws.cut.Goals as goal

pub returns-clause-instance_state : goal.returns-clause-instance_state
returns-clause-instance_state c plant p instance_state other changes others t sound lt same e =
    (scan_same plant p (has_tables plant sound p.0 lt) instance_state other changes others t same e).instance_state

pub returns-clause-changes : goal.returns-clause-changes
returns-clause-changes c plant p instance_state other changes others t sound lt same e =
    (scan_same plant p (has_tables plant sound p.0 lt) instance_state other changes others t same e).changes
