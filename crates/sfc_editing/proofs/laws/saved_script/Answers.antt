use Rattle.sfc_prompt.proofs.Transcripts.{replays}
use Rattle.sfc_editing.proofs.laws.saved_script.Goals as goal

pub returns : goal.returns
returns c chart session text has short = replays chart has.plant session text has.loaded has.gone short
