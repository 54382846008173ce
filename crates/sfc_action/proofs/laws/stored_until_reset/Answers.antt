use Rattle.sfc_action.specs.ActionControl.{input}
use Rattle.sfc_action.proofs.Numbers.{calls, stored_since, set_since}
use Rattle.sfc_action.proofs.laws.stored_until_reset.Goals as goal

pub returns : goal.returns
returns c tables a letter h = (
  λ e. (let (j, since) = (c.held.ensures (calls tables a (input tables a letter) h)).0 e in (j, stored_since tables a letter h j since)),
  λ (j, since). (c.held.ensures (calls tables a (input tables a letter) h)).1 (j, set_since tables a letter h j since),
)
