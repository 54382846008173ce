-- What messages are, without where they lie in memory.
use Rattle.std.specs.Option.{option_map}
use Rattle.serde_json.specs.View.{view}
use Rattle.sfc_wire.specs.Rpc as rpc
use Rattle.sfc_wire.specs.declared.rpc_message.Message.{Message}
use Rattle.sfc_wire.specs.declared.rpc_message.Message.TheVariants as messages

abbrev pub as_message : Message → rpc.Message
as_message (messages.Request id call) = rpc.request (view id.now) call.method.now (option_map (λ params. view params.now) call.params)
as_message (messages.Notification call) = rpc.notification call.method.now (option_map (λ params. view params.now) call.params)
as_message (messages.Success id value) = rpc.success (view id.now) (view value.now)
as_message (messages.Failure id error) = rpc.failure (view id.now) (view error.now)
as_message (messages.Invalid id) = rpc.invalid (option_map (λ id. view id.now) id)
