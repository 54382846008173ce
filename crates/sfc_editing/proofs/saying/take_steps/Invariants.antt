use Rattle.sfc_prompt.specs.Prompts.{session_in}
use Rattle.sfc_prompt.specs.Transcripts.{Puts}
use Rattle.sfc_editing.proofs.saying.take_steps.Given as goal

abbrev pub invariant-steps : goal.invariant-steps
invariant-steps l = Puts (session_in l.initial.prompt) (session_in l.prompt) l.initial.out.items l.out.items
