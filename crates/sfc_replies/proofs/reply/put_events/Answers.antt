use Rattle.sfc_wire.proofs.DapTold.{tells_then}
use Rattle.sfc_replies.proofs.Telling.{tells_none}
use Rattle.sfc_replies.proofs.reply.put_events.Goals as goal

pub events-init : goal.events-init
events-init c = tells_none c.args.sender.now c.args.outbox.now

pub events-preserved : goal.events-preserved
events-preserved c =
    tells_then c.args.sender.now c.events.sender c.put_event.new.sender c.args.outbox.now c.events.outbox c.put_event.new.outbox
    c.events.invariant c.in_ok-put_event.ensures
