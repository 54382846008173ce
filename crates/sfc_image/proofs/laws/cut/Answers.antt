use Rattle.sfc_image.proofs.Pasts.{past_cut}
use Rattle.sfc_image.proofs.laws.cut.Goals as goal

pub returns : goal.returns
returns c plant changes other later e = past_cut plant changes other later e
