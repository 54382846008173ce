use Rattle.std.proofs.Common.{◌∙◌}
use Rattle.sfc_action.specs.Private.Rows.{state_after}
use Rattle.sfc_action.proofs.Rows.{after_past}
use Rattle.sfc_action.proofs.control_state.ControlState.act_word.Goals as goal

pub put-requires-clause-past : goal.put-requires-clause-past
put-requires-clause-past c a at le =
    c.after-words.ensures a
    ∙ (λ i. state_after (c.words-2.ensures.inputs a at i) (c.words-2.ensures.stores a at i) (c.words-2.ensures.elapsed a at i) (c.words.ensures a at i))
    ∙ after_past _ a le c.args.control_scan.now c.args.self.now c.requires.control_scan c.requires.sized
