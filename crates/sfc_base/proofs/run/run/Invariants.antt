use Rattle.std.proofs.Common.{◌≡◌, ◌++◌, take, drop}
use Rattle.sfc_base.specs.Private.Runs as runs
use Rattle.sfc_base.proofs.run.run.Given as goal

abbrev pub invariant-all : goal.invariant-all
invariant-all l = (l.count ≡ l.byte-index) × (runs.run l.alphabet l.bytes ≡ (take l.count l.bytes ++ (runs.run l.alphabet (drop l.count l.bytes)).0, (runs.run l.alphabet (drop l.count l.bytes)).1))
