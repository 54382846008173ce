use Rattle.std.proofs.Crossing.{crosses}
use denote.Param.Send.{sendable}
use Rattle.sfc_control.proofs.Crosses.{controller_sync}
use Rattle.probes_books.proofs.sessions.Board.TheSendSync as board
use Rattle.probes_books.proofs.sessions.Caller.TheSendSync as caller
use Rattle.probes_books.proofs.sessions.fn.side_by_side.scope.Goals as goal

pub spawn-requires-send-F : goal.spawn-requires-send-F
spawn-requires-send-F g c κs within = search (sendable, crosses, controller_sync, caller.the_send, board.the_field_sync) depth 20
