use Rattle.std.proofs.Common.{◌≡◌, length}
use Rattle.sfc_frames.specs.Heads.{number_behind}
use Rattle.sfc_frames.proofs.line.number_behind.Given as goal

abbrev pub invariant-digits : goal.invariant-digits
invariant-digits l = number_behind l.before l.digits ≡ number_behind l.number l.rest

abbrev pub decreases-digits : goal.decreases-digits
decreases-digits l = length l.rest
