use Rattle.std.proofs.Common.{◌≡◌, ◌≤◌, length}
use Rattle.sfc_tokens.specs.Lexing.Durations.{tenths}
use Rattle.sfc_tokens.proofs.lex_duration.tenths.Given as goal

abbrev pub invariant-all : goal.invariant-all
invariant-all l = (tenths l.unit l.micros l.rest ≡ tenths l.unit 0 l.word) × (l.micros ≤ l.unit)

abbrev pub decreases-all : goal.decreases-all
decreases-all l = length l.rest
