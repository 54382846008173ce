use Rattle.sfc_text.specs.Grammar.{expression}
use Rattle.sfc_text.proofs.Fine.{expression_fine}
use Rattle.sfc_text.proofs.Readings.{one}
use Rattle.sfc_text.proofs.laws.one_expression_reading.Goals as goal

pub returns : goal.returns
returns c = one expression expression_fine
