use Rattle.serde_json.specs.View.{view}
use Rattle.std.proofs.Common.{arith}
use Rattle.sfc_wire.proofs.Told.{tells_notification}
use Rattle.sfc_wire.proofs.rpc_outbox.tell.Goals as goal

pub put-requires : goal.put-requires
put-requires c = rw c.in_ok-message.ensures (omega arith)

pub returns-clause-put : goal.returns-clause-put
returns-clause-put c = rw c.in_ok-message.ensures at c.in_ok-put.ensures.put

pub returns-clause-calls : goal.returns-clause-calls
returns-clause-calls c = tells_notification c.args.outbox.now c.put.new.outbox c.args.method.now (view c.args.params) (rw c.in_ok-message.ensures at c.in_ok-put.ensures.put)
