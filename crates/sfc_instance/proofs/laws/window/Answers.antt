use Rattle.sfc_instance.proofs.Windows.{window_is}
use Rattle.sfc_instance.proofs.laws.window.Goals as goal

pub returns : goal.returns
returns c view changes instance_state shows = window_is view changes instance_state shows
