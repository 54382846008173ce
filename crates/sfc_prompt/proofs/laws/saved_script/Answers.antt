use Rattle.sfc_prompt.proofs.Transcripts.{replays}
use Rattle.sfc_prompt.proofs.laws.saved_script.Goals as goal

pub returns : goal.returns
returns c chart plant session text loaded gone short = replays chart plant session text loaded gone short
