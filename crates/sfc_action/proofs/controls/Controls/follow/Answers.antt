use Rattle.std.proofs.Common.{◌∙◌}
use Rattle.sfc_action.specs.Agreement.{IsAlike}
use Rattle.sfc_action.proofs.controls.Controls.follow.Goals as goal

pub returns-clause-same : goal.returns-clause-same
unfolding IsAlike
returns-clause-same c =
    c.follow.ensures.followed ∙ (λ i. record (c.self.view_is i) { executed = (c.other.view_is i).executed }) ∙ c.requires.alike
