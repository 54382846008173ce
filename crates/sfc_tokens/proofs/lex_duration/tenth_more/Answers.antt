use Rattle.std.proofs.Common.{arith}
use Rattle.sfc_tokens.proofs.Tenths.{tenth_small}
use Rattle.sfc_tokens.proofs.lex_duration.tenth_more.Goals as goal

pub returns-then-sum-eq0-clause-small : goal.returns-then-sum-eq0-clause-small
returns-then-sum-eq0-clause-small c = tenth_small c.args.unit c.args.micros c.from.result c.requires.micros_small (omega (arith, c.from.ensures, c.in_ok-digit.ensures.below))
