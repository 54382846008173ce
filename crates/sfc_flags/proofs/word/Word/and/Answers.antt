use Rattle.std.proofs.Common.{◌%◌}
use Rattle.sfc_flags.specs.Words.{has}
use Rattle.sfc_flags.proofs.Has.{and_bit}
use Rattle.sfc_flags.proofs.word.Word.and.Goals as goal

pub returns : goal.returns
unfolding has
returns c place = and_bit c.args.self.0 c.args.other.0 (place % 64)
