use Rattle.std.proofs.Common.{◌%◌}
use Rattle.sfc_flags.specs.Words.{has}
use Rattle.sfc_flags.proofs.Tables.{or_bit}
use Rattle.sfc_flags.proofs.word.Word.or.Goals as goal

pub returns : goal.returns
unfolding has
returns c place = or_bit c.args.self.0 c.args.other.0 (place % 64)
