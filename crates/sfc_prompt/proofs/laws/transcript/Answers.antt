use Rattle.sfc_prompt.specs.Transcripts.{opened_on}
use Rattle.sfc_prompt.proofs.Transcripts.{transcribed}
use Rattle.sfc_prompt.proofs.laws.transcript.Goals as goal

pub returns : goal.returns
returns c plant session text gone = transcribed (opened_on plant) session text gone
