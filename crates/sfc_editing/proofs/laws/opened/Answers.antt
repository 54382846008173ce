use Rattle.sfc_editing.proofs.Edited.{nothing_written}
use Rattle.sfc_editing.proofs.laws.opened.Goals as goal

pub returns : goal.returns
returns c chart session opened = nothing_written chart session opened
