use Rattle.std.proofs.Common.{◌∙◌, ap, refl, [], ◌∷◌, not, ◌&&◌, ◌||◌}
use Rattle.sfc_action.specs.ActionControl.{R, input, stored, contributes}
use Rattle.sfc_action.proofs.Choices.{never}
use Rattle.sfc_action.proofs.Elapsed.{is_on_next}
use Rattle.sfc_action.proofs.laws.overriding_reset.Goals as goal

pub returns-clause-no_q : goal.returns-clause-no_q
returns-clause-no_q c tables a h e = ap (λ b. not b && contributes tables a h) e

pub returns-clause-unstored : goal.returns-clause-unstored
returns-clause-unstored c tables a letter [] e = refl
returns-clause-unstored c tables a letter (scan ∷ h) e =
    is_on_next (input tables a letter (scan ∷ h)) (input tables a R (scan ∷ h)) _
    ∙ ap (λ b. (stored tables a letter h || input tables a letter (scan ∷ h)) && not b) e
    ∙ never (stored tables a letter h || input tables a letter (scan ∷ h))
