-- Which values may go to another thread: a debugger and its conditions.
use denote.Param.Send.{IsSend, sendable}
use Rattle.std.proofs.Crossing.{Vec-send}
use Rattle.sfc_base.proofs.ids.ProgId.TheSendSync as program
use Rattle.sfc_core.proofs.Crosses.{resource_send}
use Rattle.sfc_plant.proofs.Crosses.{condition_send}
use Rattle.sfc_debug.proofs.breakpoints.Breakpoints.TheSendSync as points
use Rattle.sfc_debug.proofs.run_clock.RunClock.TheSendSync as clock
use Rattle.sfc_debug.proofs.trace.Trace.TheSendSync as trace
use Rattle.sfc_debug.specs.contracts.break_condition.BreakCondition as BreakCondition
use Rattle.sfc_debug.specs.contracts.debugger.Debugger as Debugger

pub break_condition_send : IsSend (BreakCondition.the_field).row
break_condition_send = search (sendable, condition_send, program.the_field_send)

pub debugger_send : IsSend (Debugger.the_field).row
debugger_send = search (sendable, Vec-send, resource_send, break_condition_send, points.the_send, clock.the_field_send, trace.the_field_send) depth 12
