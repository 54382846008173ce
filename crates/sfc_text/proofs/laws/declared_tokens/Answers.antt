use Rattle.std.proofs.Common.{Contains}
use Rattle.std.proofs.lemmas.List.Elements.{All-contains_itself}
use Rattle.sfc_text.proofs.Declaring.{declares}
use Rattle.sfc_text.proofs.laws.declared_tokens.Goals as goal

pub returns : goal.returns
returns c = λ limits ts s d. declares (Contains ts) limits ts s (All-contains_itself ts) d
