use Rattle.std.proofs.Common.{[]}
use Rattle.sfc_core.proofs.Ordered.{all_in_order}
use Rattle.sfc_core.proofs.laws.accepted_events.Goals as goal

pub returns : goal.returns
returns c plant events = all_in_order plant events [] tt
