use Rattle.std.proofs.Common.{ap, refl, ◌∙◌}
use Rattle.sfc_action.specs.Private.Rows.{InputRow}
use Rattle.sfc_action.proofs.inputs.Inputs.has_more_times.Goals as goal

pub returns : goal.returns
returns c =
    c.get.ensures ∙ ap (λ (r : InputRow). r.more_times) (c.words.ensures c.args.action refl)
