use Rattle.std.proofs.Common.{length}
use Rattle.sfc_tokens.proofs.lex_duration.+unit_among.Given as goal

abbrev pub decreases-unit_among : goal.decreases-unit_among
decreases-unit_among l = length l.units.now
