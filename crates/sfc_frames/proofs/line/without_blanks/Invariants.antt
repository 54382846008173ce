use Rattle.std.proofs.Common.{◌≡◌, length}
use Rattle.sfc_frames.specs.Heads.{without_blanks}
use Rattle.sfc_frames.proofs.line.without_blanks.Given as goal

abbrev pub invariant-blanks : goal.invariant-blanks
invariant-blanks l = without_blanks l.value ≡ without_blanks l.rest

abbrev pub decreases-blanks : goal.decreases-blanks
decreases-blanks l = length l.rest
