use Rattle.std.proofs.Common.{◌≡◌, ℕ, List, []}
use Rattle.std.specs.Io.KnownBytes.{Appends}
use Rattle.sfc_prompt.specs.Desks.{Told}
use Rattle.sfc_prompt.specs.Prompts.{course_in, session_in}
use Rattle.sfc_prompt.specs.Walks.{TakesSome}
use Rattle.sfc_prompt.proofs.Stepping.{steps_left}
use Rattle.sfc_prompt.proofs.desk.Held.go_on.Given as goal

abbrev pub invariant-steps : goal.invariant-steps
invariant-steps g l = record {
  empty : l.self.text.items ≡ [];
  tells : Told (session_in l.initial.self.prompt) (session_in l.self.prompt) (g.W.Write.contents l.initial.self.w)
      (g.W.Write.contents l.self.w);
  walks : (text : List ℕ) × TakesSome l.initial.self.prompt l.self.prompt text
      × Appends (g.W.Write.contents l.initial.self.w) (g.W.Write.contents l.self.w) text;
}

abbrev pub decreases-steps : goal.decreases-steps
decreases-steps g l = steps_left (course_in l.self.prompt)
