use Rattle.sfc_text.specs.Trees.{Nothing}
use Rattle.sfc_text.proofs.Blocks.{before_if}
use Rattle.sfc_text.proofs.parse.statement.if_of.Goals as goal

pub returns : goal.returns
returns c = before_if c.args.branches c.args.span Nothing
