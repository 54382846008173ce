use Rattle.sfc_wire.proofs.Told.{tells_then}
use Rattle.sfc_lsp.proofs.putting.put_published.Goals as goal

pub all-preserved : goal.all-preserved
all-preserved c = tells_then c.args.outbox.now c.all.outbox c.put_one.new.outbox c.all.invariant c.in_ok-put_one.ensures
