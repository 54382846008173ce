use Rattle.sfc_frames.specs.Serving.{Puts}
use Rattle.sfc_wire.specs.DapAnswered.{TellsEvents}
use Rattle.sfc_replies.proofs.reply.put_events.Given as goal

abbrev pub invariant-events : goal.invariant-events
invariant-events l = Puts l.initial.outbox l.outbox (TellsEvents l.initial.sender l.sender)
