use Rattle.serde_json.specs.View.{view}
use Rattle.sfc_wire.proofs.Told.{depth_success, responds_success}
use Rattle.sfc_wire.proofs.rpc_outbox.respond.Goals as goal

pub put-requires : goal.put-requires
put-requires c = rw c.in_ok-message.ensures (depth_success (view c.args.id.now) (view c.args.value) c.requires.id c.requires.depth)

pub returns-clause-put : goal.returns-clause-put
returns-clause-put c = rw c.in_ok-message.ensures at c.in_ok-put.ensures.put

pub returns-clause-responds : goal.returns-clause-responds
returns-clause-responds c = responds_success c.args.outbox.now c.put.new.outbox (view c.args.id.now) (view c.args.value) c.requires.id
    (rw c.in_ok-message.ensures at c.in_ok-put.ensures.put)
