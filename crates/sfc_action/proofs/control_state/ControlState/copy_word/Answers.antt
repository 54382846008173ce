use Rattle.std.proofs.Common.{ℕ, ◌∙◌, sym, subst}
use Rattle.sfc_action.specs.Private.Keeping.{IsStateSized}
use Rattle.sfc_action.proofs.Rows.{state_past}
use Rattle.sfc_action.proofs.control_state.ControlState.copy_word.Goals as goal

pub words-requires-clause-sized : goal.words-requires-clause-sized
words-requires-clause-sized c =
    subst (λ (n : ℕ). IsStateSized n c.args.other.now) (sym c.requires.other.q) c.requires.other

pub put-requires-clause-past : goal.put-requires-clause-past
put-requires-clause-past c a at le =
    c.words.ensures a at ∙ state_past _ a le c.args.other.now c.requires.other
