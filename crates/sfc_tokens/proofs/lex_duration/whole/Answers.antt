use Rattle.std.proofs.Common.{arith}
use Rattle.sfc_tokens.proofs.Tenths.{whole_fits_of}
use Rattle.sfc_tokens.proofs.lex_duration.whole.Goals as goal

pub overflow_mul-result : goal.overflow_mul-result
overflow_mul-result c = let h = whole_fits_of c.args.unit c.in_ok-count.count c.micros-micros.result c.micros-micros.ensures c.in_ok-count.ensures.fits in omega (arith, h)
