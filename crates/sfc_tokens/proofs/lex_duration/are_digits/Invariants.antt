use Rattle.std.proofs.Common.{◌≡◌, true, length}
use Rattle.sfc_tokens.specs.Lexing.Durations.{are_digits}
use Rattle.sfc_tokens.proofs.lex_duration.are_digits.Given as goal

abbrev pub invariant-all : goal.invariant-all
invariant-all l = are_digits l.is_wanted l.rest ≡ are_digits true l.word

abbrev pub decreases-all : goal.decreases-all
decreases-all l = length l.rest
