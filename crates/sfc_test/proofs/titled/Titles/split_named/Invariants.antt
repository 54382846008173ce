use Rattle.std.proofs.Common.{◌≡◌, length}
use Rattle.sfc_test.specs.Running.{titled_behind}
use Rattle.sfc_test.proofs.titled.Titles.split_named.Given as goal

abbrev pub invariant-lines : goal.invariant-lines
invariant-lines l = titled_behind l.self.front.now l.rest ≡ titled_behind l.self.front.now l.self.rest.now

abbrev pub decreases-lines : goal.decreases-lines
decreases-lines l = length l.rest
