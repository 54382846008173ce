use Rattle.sfc_frames.proofs.Reading.{read_among}
use Rattle.sfc_frames.proofs.laws.framed_read.Goals as goal

pub returns : goal.returns
returns c = read_among
