use Rattle.std.proofs.Common.{length, ◌+◌, ◌*◌}
use Rattle.sfc_tokens.proofs.lex_duration.+parts.Given as goal

abbrev pub decreases-parts : goal.decreases-parts
decreases-parts l = 2 * length l.units.now

abbrev pub decreases-part : goal.decreases-part
decreases-part l = 2 * length l.smaller.now + 1
