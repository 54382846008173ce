-- What requests are, without where they lie in memory.
use Rattle.std.specs.Option.{option_map}
use Rattle.serde_json.specs.View.{view}
use Rattle.sfc_wire.specs.Dap as dap
use Rattle.sfc_wire.specs.declared.dap_request.Request.{Request}

abbrev pub as_request : Request → dap.Request
as_request request = record { seq = request.seq; command = request.command.now; arguments = option_map (λ value. view value.now) request.arguments }
