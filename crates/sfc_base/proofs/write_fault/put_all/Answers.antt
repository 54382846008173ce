use Rattle.std.proofs.Common.{take, take-append-drop, sym}
use Rattle.sfc_base.proofs.Written.{UpTo-more}
use Rattle.sfc_base.proofs.write_fault.put_all.Goals as goal

pub all-preserved : goal.all-preserved
all-preserved g c = UpTo-more (g.W.Write.contents c.args.writer.now) (g.W.Write.contents c.all.writer) (g.W.Write.contents c.write.new.self) c.args.bytes.now c.all.rest.now (take c.in-Ok.count c.all.rest.now) c.split_at.result.1.now c.all.invariant (rw c.split_at.ensures.back (sym (take-append-drop c.in-Ok.count c.all.rest.now))) c.in-Ok.ensures.bytes
