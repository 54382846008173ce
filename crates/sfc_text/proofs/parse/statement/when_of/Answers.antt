use Rattle.sfc_text.specs.Trees.{Nothing}
use Rattle.sfc_text.proofs.Blocks.{beside_when}
use Rattle.sfc_text.proofs.parse.statement.when_of.Goals as goal

pub returns : goal.returns
returns c = beside_when c.args.condition c.args.body Nothing
