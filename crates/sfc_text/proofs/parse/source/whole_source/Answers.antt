use Rattle.sfc_tokens.specs.Tokens.{kinds}
use Rattle.sfc_text.specs.Grammar.{source}
use Rattle.sfc_text.specs.Parsing.Depth.{reads}
use Rattle.sfc_text.specs.Trees.{source_of}
use Rattle.sfc_text.proofs.Readings.{left_over}
use Rattle.sfc_text.proofs.parse.source.whole_source.Goals as goal

pub returns-in-len1-up : goal.returns-in-len1-up
returns-in-len1-up c = left_over c.syntax.result (reads source (kinds c.args.tokens.now)) (source_of c.in_ok-source.source) c.in_ok-source.rest.now c.syntax.ensures c.in-len1-up.len_at_least c.in_ok-source.ensures
