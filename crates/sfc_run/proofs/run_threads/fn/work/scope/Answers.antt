use Rattle.std.proofs.Crossing.{crosses, Vec-send}
use denote.Param.Send.{sendable}
use Rattle.sfc_control.proofs.Crosses.{controller_sync}
use Rattle.sfc_control.proofs.post.Post.TheSendSync as post
use Rattle.sfc_run.proofs.pace.Pace.TheSendSync as pace
use Rattle.sfc_run.proofs.real_time.RealTime.TheSendSync as clock
use Rattle.sfc_run.proofs.run_threads.fn.work.scope.Goals as goal

pub spawn_with-requires-send-F : goal.spawn_with-requires-send-F
spawn_with-requires-send-F g c κs within = search (sendable, crosses, Vec-send, controller_sync, post.the_send, pace.the_send, clock.the_send) depth 20
