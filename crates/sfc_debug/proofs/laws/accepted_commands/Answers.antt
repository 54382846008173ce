use Rattle.std.proofs.Common.{[]}
use Rattle.sfc_debug.proofs.Accepting.{all_accepted}
use Rattle.sfc_debug.proofs.laws.accepted_commands.Goals as goal

pub returns : goal.returns
returns c plant table commands = all_accepted plant table commands [] tt
