use Rattle.std.proofs.Common.{length}
use Rattle.sfc_prompt.specs.Prompts.{session_in}
use Rattle.sfc_prompt.specs.Transcripts.{Puts}
use Rattle.sfc_editing.proofs.back.obey_lines.Given as goal

abbrev pub invariant-lines : goal.invariant-lines
invariant-lines l = Puts (session_in l.initial.prompt) (session_in l.prompt) l.initial.out.items l.out.items

abbrev pub decreases-lines : goal.decreases-lines
decreases-lines l = length l.rest
