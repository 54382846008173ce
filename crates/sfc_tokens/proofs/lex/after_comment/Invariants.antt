use Rattle.std.proofs.Common.{◌≡◌, length}
use Rattle.sfc_tokens.specs.Lexing.Tokens.{after_comment}
use Rattle.sfc_tokens.proofs.lex.after_comment.Given as goal

abbrev pub invariant-all : goal.invariant-all
invariant-all l = after_comment l.rest ≡ after_comment l.bytes

abbrev pub decreases-all : goal.decreases-all
decreases-all l = length l.rest
