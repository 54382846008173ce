use Rattle.std.proofs.Common.{◌≡◌, length}
use Rattle.sfc_tokens.specs.Lexing.Integers.{after}
use Rattle.sfc_tokens.proofs.number.after.Given as goal

abbrev pub invariant-all : goal.invariant-all
invariant-all l = after l.wanted l.rest ≡ after l.front l.word

abbrev pub decreases-all : goal.decreases-all
decreases-all l = length l.wanted
