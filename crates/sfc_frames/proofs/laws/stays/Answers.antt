use Rattle.sfc_frames.proofs.Cutting.{first_stays}
use Rattle.sfc_frames.proofs.laws.stays.Goals as goal

pub returns : goal.returns
returns c = first_stays
