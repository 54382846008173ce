use Rattle.std.proofs.Common.{arith}
use Rattle.sfc_tokens.specs.Texts as texts
use Rattle.sfc_tokens.specs.Tokens.{kinds}
use Rattle.sfc_tokens.proofs.Outcomes.{found}
use Rattle.sfc_tokens.proofs.lex.tokens_with_place.Goals as goal

pub returns : goal.returns
returns c = found (λ v. kinds v.items) c.lex.result c.args.text.now c.without_mark.result.now (omega arith) c.without_mark.ensures c.lex.ensures

pub returns-then-text-gt-LONGEST : goal.returns-then-text-gt-LONGEST
returns-then-text-gt-LONGEST c = rw c.too_long.ensures (texts.too_long {text = c.args.text.now} (omega arith))
