use Rattle.sfc_text.specs.Grammar.{source}
use Rattle.sfc_text.proofs.Fine.{source_fine}
use Rattle.sfc_text.proofs.Readings.{some}
use Rattle.sfc_text.proofs.laws.some_reading.Goals as goal

pub returns : goal.returns
returns c = some source source_fine
