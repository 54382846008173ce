use Rattle.sfc_action.specs.Agreement.{IsAlike}
use Rattle.sfc_instance.proofs.state.State.follow.Goals as goal

pub returns-in-Nothing-clause-near : goal.returns-in-Nothing-clause-near
unfolding IsAlike
returns-in-Nothing-clause-near c = record {
  steps = c.follow.ensures.like;
  controls = λ i. record (c.follow-in-Nothing.ensures.same i) { executed = c.args.other.now.controls.executed };
}
