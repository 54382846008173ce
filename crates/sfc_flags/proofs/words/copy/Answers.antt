use Rattle.std.proofs.Common.{arith}
use Rattle.std.proofs.lemmas.List.{ext_get_or}
use Rattle.sfc_flags.proofs.words.copy.Goals as goal

pub returns-clause-words : goal.returns-clause-words
returns-clause-words c = ext_get_or 0 _ _ (omega arith) (λ k lt. c.loop-k.invariant.done k (omega arith))
