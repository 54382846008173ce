use Rattle.std.proofs.Common.{◌≡◌, length}
use Rattle.sfc_tokens.specs.Tokens.{kinds}
use Rattle.sfc_text.specs.Grammar.{globals}
use Rattle.sfc_text.specs.Parsing.Depth.{at}
use Rattle.sfc_text.specs.Parsing.Lookahead.{first}
use Rattle.sfc_text.specs.Parsing.Reading.{behind}
use Rattle.sfc_text.specs.Terms.{gathered}
use Rattle.sfc_text.proofs.Loops.{Folding, gathers}
use Rattle.sfc_text.proofs.parse.configuration.all_globals.Given as goal

abbrev pub invariant-blocks-2 : goal.invariant-blocks-2
invariant-blocks-2 l = Folding (first globals) (at 64 globals) gathers l.found.items (kinds l.rest) ≡ behind l.initial.found.items (at 64 (gathered globals) (kinds l.tokens))

abbrev pub decreases-blocks-2 : goal.decreases-blocks-2
decreases-blocks-2 l = length l.rest
