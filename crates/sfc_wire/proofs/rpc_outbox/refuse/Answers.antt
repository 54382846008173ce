use Rattle.serde_json.specs.View.{view}
use Rattle.sfc_wire.proofs.Told.{depth_failure, responds_failure}
use Rattle.sfc_wire.proofs.rpc_outbox.refuse.Goals as goal

pub put-requires : goal.put-requires
put-requires c = rw c.in_ok-message.ensures (depth_failure (view c.args.id.now) c.args.code c.args.reason.now c.requires)

pub returns-clause-put : goal.returns-clause-put
returns-clause-put c = rw c.in_ok-message.ensures at c.in_ok-put.ensures.put

pub returns-clause-responds : goal.returns-clause-responds
returns-clause-responds c = responds_failure c.args.outbox.now c.put.new.outbox (view c.args.id.now) c.args.code c.args.reason.now c.requires
    (rw c.in_ok-message.ensures at c.in_ok-put.ensures.put)
