-- Which values may go to another thread: the end of a feed, a debugger that follows, what is shown, what is read of a run, and what a thread's job captures.
use mir.Syntax.{Sym, Ty}
use denote.Exit.{no}
use denote.Param.{arg, param}
use denote.Param.Send.{AllSend, IsSend, arg_send, param_send, recorded_send, sendable, struct_send}
use denote.RattleType.{RattleType}
use denote.Struct.Declared.{shape}
use denote.Struct.Field.{rows}
use denote.Struct.Struct.{Struct}
use denote.Struct.Tuple.{TupleAt, parts, type_at}
use Rattle.std.proofs.Common.{List}
use Rattle.std.proofs.Crossing.{crosses}
use Rattle.rtrb.proofs.consumer.Consumer.TheSendSync as consumer
use Rattle.sfc_events.proofs.command.TraceRow.TheSendSync as row
use Rattle.sfc_control.proofs.of_sfc_debug.Crosses.{debugger_send}
use Rattle.sfc_control.proofs.of_sfc_debug.opening.DebugOpening.TheSendSync as opening
use Rattle.sfc_control.specs.contracts.tail.Tail as Tail
use Rattle.sfc_run.specs.contracts.alarms.Alarms as Alarms
use Rattle.sfc_run.specs.contracts.follower.Follower as Follower
use Rattle.sfc_run.specs.contracts.points.Points as Points
use Rattle.sfc_run.specs.contracts.resumption.Resumption as Resumption
use Rattle.sfc_run.specs.contracts.screen.Screen as Screen
use Rattle.sfc_run.specs.contracts.timing.Timing as Timing
use Rattle.sfc_run.specs.contracts.watch.Watch as Watch

tail_send : IsSend (Tail.the_field).row
tail_send = search (sendable, crosses, consumer.the_field_send, row.the_send) depth 20

follower_send : IsSend (Follower.the_field).row
follower_send = search (sendable, crosses, debugger_send) depth 20

screen_send : IsSend (Screen.the_field).row
screen_send = search (sendable, crosses, debugger_send) depth 20

points_send : IsSend (Points.the_field).row
points_send = search (sendable, crosses, row.the_send) depth 20

timing_send : IsSend (Timing.the_field).row
timing_send = search (sendable, crosses) depth 20

alarms_send : IsSend (Alarms.the_field).row
alarms_send = search (sendable, crosses, follower_send, screen_send, points_send, timing_send) depth 20

resumption_send : IsSend (Resumption.the_field).row
resumption_send = search (sendable, crosses, opening.the_field_send) depth 20

pub watch_send : IsSend (Watch.the_field).row
watch_send = search (sendable, crosses, alarms_send, tail_send, resumption_send) depth 20

-- A job that captures values of these types. Written out, since the prover's own search goes through all that a debugger is made of.
pub job_send : (ν : Sym) (δ : Ty) (Ts : List RattleType) → AllSend (rows (parts Ts)) → IsSend (param 1 (arg δ no (TupleAt ν Ts)))
job_send ν δ Ts all =
    let T = type_at ν Ts in
    let captures = recorded_send (Struct (shape T)) T.D T.to T.to_one (struct_send (shape T) all) in
    param_send 1 (arg δ no (TupleAt ν Ts)) (arg_send δ no (TupleAt ν Ts) captures)
