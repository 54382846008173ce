use Rattle.std.proofs.Common.{arith}
use Rattle.sfc_flags.proofs.Views.{no_bit}
use Rattle.sfc_flags.proofs.words.clear.Goals as goal

pub returns-clause-bits : goal.returns-clause-bits
returns-clause-bits c = no_bit _ (λ k lt. c.loop-k.invariant.done k (omega arith))
