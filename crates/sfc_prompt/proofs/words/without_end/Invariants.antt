use Rattle.std.proofs.Common.{◌≡◌, length}
use Rattle.sfc_prompt.specs.Words.{without_end}
use Rattle.sfc_prompt.proofs.words.without_end.Given as goal

abbrev pub invariant-blanks : goal.invariant-blanks
invariant-blanks l = without_end l.text ≡ without_end l.rest

abbrev pub decreases-blanks : goal.decreases-blanks
decreases-blanks l = length l.rest
