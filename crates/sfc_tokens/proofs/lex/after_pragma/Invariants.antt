use Rattle.std.proofs.Common.{◌≡◌, length}
use Rattle.sfc_tokens.specs.Lexing.Tokens.{after_pragma}
use Rattle.sfc_tokens.proofs.lex.after_pragma.Given as goal

abbrev pub invariant-all : goal.invariant-all
invariant-all l = after_pragma l.rest ≡ after_pragma l.bytes

abbrev pub decreases-all : goal.decreases-all
decreases-all l = length l.rest
