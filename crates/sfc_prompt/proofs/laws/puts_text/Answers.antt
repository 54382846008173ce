use Rattle.std.specs.Prelude.{◌++◌, refl}
use Rattle.sfc_prompt.proofs.Telling as telling
use Rattle.sfc_prompt.proofs.laws.puts_text.Goals as goal

pub returns : goal.returns
returns c session before text = telling.puts_text session before (before ++ text) text refl
