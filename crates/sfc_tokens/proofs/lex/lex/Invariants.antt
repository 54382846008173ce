use Rattle.std.proofs.Common.{◌≡◌, length}
use Rattle.sfc_tokens.specs.Lexing.Tokens.{lex}
use Rattle.sfc_tokens.specs.Tokens.{kinds}
use Rattle.sfc_tokens.proofs.Loop.{with_front}
use Rattle.sfc_tokens.proofs.lex.lex.Given as goal

abbrev pub invariant-all : goal.invariant-all
invariant-all l = with_front (kinds l.tokens.items) (lex (length l.rest) l.rest) ≡ lex (length l.bytes) l.bytes

abbrev pub decreases-all : goal.decreases-all
decreases-all l = length l.rest
