use Rattle.sfc_flags.specs.Words.{has}
use Rattle.sfc_flags.proofs.Has.{plus_shows}
use Rattle.sfc_flags.proofs.word.Word.plus.Goals as goal

pub returns : goal.returns
unfolding has
returns c other same = plus_shows c.args.self.0 c.args.place other same
