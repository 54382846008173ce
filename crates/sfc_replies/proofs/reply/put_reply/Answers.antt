use Rattle.sfc_wire.specs.DapViews.{as_request}
use Rattle.sfc_wire.proofs.DapTold.{responds_then}
use Rattle.sfc_replies.proofs.reply.put_reply.Goals as goal

pub returns-clause-responds : goal.returns-clause-responds
returns-clause-responds c =
    responds_then (as_request c.args.request) c.args.sender.now c.put_answer.new.sender c.put_events.new.sender c.args.outbox.now
    c.put_answer.new.outbox c.put_events.new.outbox c.in_ok-put_answer.ensures c.in_ok-put_events.ensures
