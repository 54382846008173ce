use Rattle.sfc_text.specs.Trees.{Nothing}
use Rattle.sfc_text.proofs.Blocks.{beside_otherwise}
use Rattle.sfc_text.proofs.parse.statement.otherwise_of.Goals as goal

pub returns : goal.returns
returns c = beside_otherwise c.args.body Nothing
