use Rattle.std.proofs.Common.{◌≡◌}
use Rattle.sfc_tokens.specs.Lexing.Locations.{numbers, with_front}
use Rattle.sfc_tokens.proofs.lex_location.numbers.Given as goal

abbrev pub invariant-all : goal.invariant-all
invariant-all l = with_front l.numbers.items (numbers l.left l.rest) ≡ numbers 8 l.text

abbrev pub decreases-all : goal.decreases-all
decreases-all l = l.left
