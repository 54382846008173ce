use Rattle.sfc_tokens.proofs.Signs.{ends_before}
use Rattle.sfc_tokens.proofs.laws.sign_ends.Goals as goal

pub returns : goal.returns
returns c = ends_before
