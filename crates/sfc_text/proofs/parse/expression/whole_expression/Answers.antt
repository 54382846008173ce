use Rattle.sfc_tokens.specs.Tokens.{kinds}
use Rattle.sfc_text.specs.Grammar.{expression}
use Rattle.sfc_text.specs.Parsing.Depth.{reads}
use Rattle.sfc_text.specs.Trees.{tree_of}
use Rattle.sfc_text.proofs.Readings.{left_over}
use Rattle.sfc_text.proofs.parse.expression.whole_expression.Goals as goal

pub returns-in-len1-up : goal.returns-in-len1-up
returns-in-len1-up c =
    let given = reads expression (kinds c.args.tokens.now) in
    left_over c.syntax.result given (tree_of c.in_ok-tree.tree) c.in_ok-tree.rest.now c.syntax.ensures c.in-len1-up.len_at_least
    c.in_ok-tree.ensures
