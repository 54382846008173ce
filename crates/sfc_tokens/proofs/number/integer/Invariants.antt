use Rattle.std.proofs.Common.{◌≡◌, ◌≤◌, true, length}
use Rattle.sfc_tokens.specs.Lexing.Integers.{digits}
use Rattle.sfc_tokens.proofs.number.integer.Given as goal

abbrev pub invariant-all : goal.invariant-all
invariant-all l = (digits l.base l.limit l.is_wanted l.number l.rest ≡ digits l.base l.limit true 0 l.word) × (l.number ≤ l.limit)

abbrev pub decreases-all : goal.decreases-all
decreases-all l = length l.rest
