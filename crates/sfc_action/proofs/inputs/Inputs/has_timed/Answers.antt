use Rattle.std.proofs.Common.{ap, refl, ◌∙◌}
use Rattle.sfc_action.specs.Private.Rows.{InputRow}
use Rattle.sfc_action.specs.Private.Marks.{timed_by}
use Rattle.sfc_action.proofs.SetTables.{timed_flag}
use Rattle.sfc_action.proofs.inputs.Inputs.has_timed.Goals as goal

pub returns : goal.returns
returns c =
    c.has.ensures ∙ ap (λ (r : InputRow). timed_by c.args.qualifier r.timed) (c.words.ensures c.args.action refl)
    ∙ timed_flag c.args.qualifier c.args.self.now.timed c.args.action
