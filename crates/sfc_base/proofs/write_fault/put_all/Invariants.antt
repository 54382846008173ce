use Rattle.std.proofs.Common.{length}
use Rattle.sfc_base.proofs.Written.{UpTo}
use Rattle.sfc_base.proofs.write_fault.put_all.Given as goal

abbrev pub invariant-all : goal.invariant-all
invariant-all g l = UpTo (g.W.Write.contents l.initial.writer) (g.W.Write.contents l.writer) l.bytes l.rest

abbrev pub decreases-all : goal.decreases-all
decreases-all g l = length l.rest
