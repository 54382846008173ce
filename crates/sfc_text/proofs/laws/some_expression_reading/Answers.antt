use Rattle.sfc_text.specs.Grammar.{expression}
use Rattle.sfc_text.proofs.Fine.{expression_fine}
use Rattle.sfc_text.proofs.Readings.{some}
use Rattle.sfc_text.proofs.laws.some_expression_reading.Goals as goal

pub returns : goal.returns
returns c = some expression expression_fine
