use Rattle.sfc_instance.proofs.Windows.{moment_is}
use Rattle.sfc_instance.proofs.laws.moment.Goals as goal

pub returns : goal.returns
returns c moment changes instance_state shows = moment_is moment changes instance_state shows
