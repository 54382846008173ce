use Rattle.std.proofs.Common.{◌≡◌, ◌++◌, length}
use Rattle.sfc_cases.specs.Lines.{replaced, replaced_from}
use Rattle.sfc_cases.proofs.named.put_replaced.Given as goal

abbrev pub invariant-all : goal.invariant-all
invariant-all l = l.out.items ++ replaced_from l.names l.name.items l.rest ≡ l.fn.out.items ++ replaced l.names l.text

abbrev pub decreases-all : goal.decreases-all
decreases-all l = length l.rest
