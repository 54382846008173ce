use Rattle.std.proofs.Common.{◌≡◌, length}
use Rattle.sfc_frames.specs.Heads.{behind_name}
use Rattle.sfc_frames.proofs.line.behind_name.Given as goal

abbrev pub invariant-letters : goal.invariant-letters
invariant-letters l = behind_name l.name l.line ≡ behind_name l.wanted l.rest

abbrev pub decreases-letters : goal.decreases-letters
decreases-letters l = length l.wanted
