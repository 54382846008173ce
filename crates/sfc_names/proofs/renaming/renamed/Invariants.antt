use Rattle.std.proofs.Common.{◌≡◌, ◌++◌, length}
use Rattle.sfc_names.specs.Pieces as pieces
use Rattle.sfc_names.proofs.renaming.renamed.Given as goal

abbrev pub invariant-all : goal.invariant-all
invariant-all l = pieces.renamed l.text 0 l.spans l.name ≡ l.other.items ++ pieces.renamed l.text l.from l.rest l.name

abbrev pub decreases-all : goal.decreases-all
decreases-all l = length l.rest
