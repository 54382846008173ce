use Rattle.std.proofs.Common.{◌%◌}
use Rattle.sfc_flags.specs.Words.{has}
use Rattle.sfc_flags.proofs.Has.{no_flag}
use Rattle.sfc_flags.proofs.word.Word.none.Goals as goal

pub returns : goal.returns
unfolding has
returns c place = no_flag (place % 64)
