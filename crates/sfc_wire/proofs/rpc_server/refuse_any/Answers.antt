use Rattle.std.specs.Option.{option_map}
use Rattle.serde_json.specs.View.{view}
use Rattle.sfc_wire.proofs.Told.{depth_refusal, refuses}
use Rattle.sfc_wire.proofs.rpc_server.refuse_any.Goals as goal

pub put-requires : goal.put-requires
put-requires c = rw c.in_ok-message.ensures (depth_refusal (option_map (λ id. view id.now) c.args.id) c.args.code c.args.reason.now c.requires)

pub returns : goal.returns
returns c = refuses c.args.outbox.now c.put.new.outbox (option_map (λ id. view id.now) c.args.id) c.args.code c.args.reason.now (view c.in_ok-message.message)
    c.in_ok-message.ensures c.in_ok-put.ensures.put
