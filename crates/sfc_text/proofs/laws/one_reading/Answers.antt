use Rattle.sfc_text.specs.Grammar.{source}
use Rattle.sfc_text.proofs.Fine.{source_fine}
use Rattle.sfc_text.proofs.Readings.{one}
use Rattle.sfc_text.proofs.laws.one_reading.Goals as goal

pub returns : goal.returns
returns c = one source source_fine
