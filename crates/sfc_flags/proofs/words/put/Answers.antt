use Rattle.sfc_flags.proofs.Tables.{put_true, put_false}
use Rattle.sfc_flags.proofs.words.put.Goals as goal

pub returns-then-value-clause-bits : goal.returns-then-value-clause-bits
returns-then-value-clause-bits c j = rw c.if-value.true (put_true c.args.words.now c.args.i c.requires j)

pub returns-else-value-clause-bits : goal.returns-else-value-clause-bits
returns-else-value-clause-bits c j = rw c.if-value.false (put_false c.args.words.now c.args.i c.requires j)
