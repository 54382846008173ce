use Rattle.std.proofs.Common.{ap}
use Rattle.sfc_action.proofs.Pasts.{action_by}
use Rattle.sfc_action.proofs.laws.past_answers.Goals as goal

pub returns-clause-q : goal.returns-clause-q
returns-clause-q c tables h other a lt e = ap (λ p. p.q) (action_by tables h other e a lt)

pub returns-clause-executed : goal.returns-clause-executed
returns-clause-executed c tables h other a lt e = ap (λ p. p.executed) (action_by tables h other e a lt)
