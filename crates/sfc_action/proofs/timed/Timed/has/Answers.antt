use Rattle.std.proofs.Common.{ap, refl, ◌∙◌}
use Rattle.sfc_action.specs.Private.Rows.{TimedRow}
use Rattle.sfc_action.specs.Private.Marks.{timed_by}
use Rattle.sfc_action.proofs.SetTables.{timed_flag}
use Rattle.sfc_action.proofs.timed.Timed.has.Goals as goal

pub returns : goal.returns
returns c =
    c.has.ensures ∙ ap (λ (r : TimedRow). timed_by c.args.qualifier r) (c.words.ensures c.args.action refl)
    ∙ timed_flag c.args.qualifier c.args.self.now c.args.action
