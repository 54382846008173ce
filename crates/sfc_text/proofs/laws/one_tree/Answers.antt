use Rattle.sfc_text.specs.Grammar.{source}
use Rattle.sfc_text.proofs.Fine.{source_fine}
use Rattle.sfc_text.proofs.Whole as whole
use Rattle.sfc_text.proofs.laws.one_tree.Goals as goal

pub returns : goal.returns
returns c = λ l m ts s t h g. whole.one_tree source source_fine l m ts s t h g
