use Rattle.std.proofs.Common.{Option, subst}
use Rattle.sfc_output.specs.declared.kept_lines.Kept.{Kept}
use Rattle.sfc_output.specs.Memories.{Fits, HeadsRight, heads_in}
use Rattle.sfc_output.proofs.kept_lines.KeptLines.head.Goals as goal

pub returns-in-Some-clause-right : goal.returns-in-Some-clause-right
unfolding Fits
returns-in-Some-clause-right c plant fits =
    c.head.ensures.right plant (subst (λ (kept : Option Kept). HeadsRight plant (heads_in kept)) c.in-Some.is fits.1)
