use Rattle.sfc_instance.proofs.Typed.{scan_typed, scan_instants}
use Rattle.sfc_instance.proofs.laws.types.Goals as goal

pub returns-clause-given : goal.returns-clause-given
returns-clause-given c plant p instance_state changes t begins typed life at all =
    scan_typed plant p begins typed instance_state changes t life at all

pub returns-clause-instants : goal.returns-clause-instants
returns-clause-instants c plant p instance_state changes t life at = scan_instants plant p instance_state changes t life at
