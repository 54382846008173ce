use Rattle.std.proofs.Common.{arith}
use Rattle.sfc_flags.specs.Words.{has}
use Rattle.sfc_flags.proofs.Same.{test_same}
use Rattle.sfc_flags.proofs.word.Word.is_same.Goals as goal

pub returns : goal.returns
unfolding has
returns c = test_same c.args.self.0 c.args.other.0 (omega arith) (omega arith)
