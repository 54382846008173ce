use Rattle.std.proofs.Common.{◌≡◌, ◌<◌, ◌+◌, ◌-◌, [], ℕ, List, None}
use Rattle.sfc_asking.specs.sfc_script.Arriving.{ended_line}
use Rattle.sfc_prompt.specs.Desks.{Told}
use Rattle.sfc_prompt.specs.Private.Waiting.{Waits}
use Rattle.sfc_prompt.specs.Prompts.{course_in, session_in}
use Rattle.sfc_prompt.proofs.Serving.{HasTaken}
use Rattle.sfc_prompt.proofs.desk.obey_pieces.Given as goal

abbrev pub invariant-pieces : goal.invariant-pieces
invariant-pieces g l = record {
  empty : l.held.text.items ≡ [];
  idle : course_in l.held.prompt ≡ None;
  tells : Told (session_in l.initial.held.prompt) (session_in l.held.prompt) (g.W.Write.contents l.initial.held.w)
      (g.W.Write.contents l.held.w);
  serves : (left : List ℕ) × Waits l.arrived left × (ended_line left ≡ None)
      × HasTaken l.is_terminal (g.S.Read.remaining l.initial.reader, g.S.Read.remaining l.reader)
      (g.W.Write.contents l.initial.held.w, g.W.Write.contents l.held.w) l.initial.held.prompt l.held.prompt left l.taken;
  few : l.taken < 9223372036854775808 + 1048576;
}

abbrev pub decreases-pieces : goal.decreases-pieces
decreases-pieces g l = 9223372036854775808 - l.taken
