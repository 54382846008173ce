use Rattle.std.proofs.Common.{ℕ, ◌-◌, length}
use Rattle.sfc_flags.specs.Cursors.{StandsAt}
use Rattle.sfc_flags.proofs.flags.Flags.next.Given as goal

-- the walk stands where it stood
abbrev pub invariant-words : goal.invariant-words
invariant-words l = (from : ℕ) → StandsAt l.self from l.fn.cursor → StandsAt l.self from l.at

abbrev pub decreases-words : goal.decreases-words
decreases-words l = length l.self - l.at.base
