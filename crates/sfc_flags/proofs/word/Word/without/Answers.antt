use Rattle.std.proofs.Common.{◌%◌, arith}
use Rattle.sfc_flags.specs.Words.{has}
use Rattle.sfc_flags.proofs.Tables.{and_not_bit}
use Rattle.sfc_flags.proofs.word.Word.without.Goals as goal

pub returns : goal.returns
unfolding has
returns c place = and_not_bit c.args.self.0 c.args.other.0 (place % 64) (omega arith) (omega arith)
