use Rattle.std.proofs.Common.{arith}
use Rattle.sfc_flags.specs.Words.{has}
use Rattle.sfc_flags.proofs.Has.{test_none}
use Rattle.sfc_flags.proofs.word.Word.is_none.Goals as goal

pub returns : goal.returns
unfolding has
returns c = test_none c.args.self.0 (omega arith)
