use Rattle.std.proofs.Common.{ap, refl, ◌∙◌}
use Rattle.sfc_action.specs.Private.Rows.{InputRow}
use Rattle.sfc_action.proofs.inputs.Inputs.has_time.Goals as goal

pub returns : goal.returns
returns c =
    c.get.ensures ∙ ap (λ (r : InputRow). r.any_time) (c.words.ensures c.args.action refl)
