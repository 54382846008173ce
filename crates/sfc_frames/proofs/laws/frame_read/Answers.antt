use Rattle.sfc_frames.proofs.Reading.{read_back}
use Rattle.sfc_frames.proofs.laws.frame_read.Goals as goal

pub returns : goal.returns
returns c = read_back
