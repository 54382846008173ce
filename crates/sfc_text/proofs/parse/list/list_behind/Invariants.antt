use Rattle.std.proofs.Common.{◌≡◌, length}
use Rattle.sfc_tokens.specs.Tokens.{kinds}
use Rattle.sfc_text.specs.Parsing.Depth.{at}
use Rattle.sfc_text.specs.Parsing.Lookahead.{first}
use Rattle.sfc_text.specs.Parsing.Reading.{behind}
use Rattle.sfc_text.specs.Terms.{repeated}
use Rattle.sfc_text.proofs.Loops.{Folding, pushed}
use Rattle.sfc_text.proofs.parse.list.list_behind.Given as goal

abbrev pub invariant-items : goal.invariant-items
invariant-items g l = Folding (first g.T.Item.rule) (at 64 g.T.Item.rule) pushed (g.T.Item.trees l.found.items) (kinds l.rest) ≡ behind (g.T.Item.trees l.initial.found.items) (at 64 (repeated g.T.Item.rule) (kinds l.tokens))

abbrev pub decreases-items : goal.decreases-items
decreases-items g l = length l.rest
