use Rattle.std.proofs.Common.{◌∙◌, sym}
use Rattle.sfc_session.proofs.laws.one_text.Goals as goal

pub returns : goal.returns
returns c session h some others said again = said.text ∙ sym again.text
