use Rattle.sfc_action.specs.ActionControl.{input}
use Rattle.sfc_action.proofs.Numbers.{reads, acted_since, run_since}
use Rattle.sfc_action.proofs.laws.delayed_by_time.Goals as goal

pub returns : goal.returns
returns c tables a letter h = (
  λ e. (let (m, since) = (c.delayed.ensures (reads tables a (input tables a letter) h)).0 e in (m, acted_since tables a letter h m since)),
  λ (m, since). (c.delayed.ensures (reads tables a (input tables a letter) h)).1 (m, run_since tables a letter h m since),
)
