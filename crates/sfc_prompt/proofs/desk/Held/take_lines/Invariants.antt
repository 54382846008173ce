use Rattle.std.proofs.Common.{◌≡◌, [], ℕ, List, Bool, None, length}
use Rattle.std.specs.Io.KnownBytes.{Appends}
use Rattle.sfc_prompt.specs.declared.prompt.Flow.TheVariants.{GoesOn}
use Rattle.sfc_prompt.specs.Desks.{Told}
use Rattle.sfc_prompt.specs.Private.Waiting.{Waits}
use Rattle.sfc_prompt.specs.Prompts.{course_in, session_in}
use Rattle.sfc_prompt.proofs.Waits.{Taking}
use Rattle.sfc_prompt.proofs.desk.Held.take_lines.Given as goal

abbrev pub invariant-lines : goal.invariant-lines
invariant-lines g l = record {
  empty : l.self.text.items ≡ [];
  idle : course_in l.self.prompt ≡ None;
  tells : Told (session_in l.initial.self.prompt) (session_in l.self.prompt) (g.W.Write.contents l.initial.self.w)
      (g.W.Write.contents l.self.w);
  walks : (terminal : Bool) (bytes : List ℕ) → Waits l.initial.arrived bytes → (text : List ℕ)
      × Taking terminal l.initial.self.prompt l.self.prompt bytes l.arrived GoesOn text
      × Appends (g.W.Write.contents l.initial.self.w) (g.W.Write.contents l.self.w) text;
}

abbrev pub decreases-lines : goal.decreases-lines
decreases-lines g l = length l.arrived.lines
