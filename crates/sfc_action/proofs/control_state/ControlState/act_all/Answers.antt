use Rattle.std.proofs.Common.{length, ◌∙◌, sym, arith}
use Rattle.sfc_action.specs.Private.Rows.{state_row, state_row_after}
use Rattle.sfc_flags.proofs.Wordwise.{begun, more, all_done}
use Rattle.sfc_action.proofs.Rows.{state_past, after_past}
use Rattle.sfc_action.proofs.control_state.ControlState.act_all.Goals as goal

pub returns-then-words-eq1-clause-rows : goal.returns-then-words-eq1-clause-rows
returns-then-words-eq1-clause-rows c =
    let s = c.args.control_scan.now in let old = c.args.self.now in let new = c.act_word.new.self in
    let rows = state_row_after s (state_row old) in
    all_done rows (state_row old) (length old.q) 1 (state_row new) (omega (arith, c.words.ensures, c.if-words-eq1.true))
    (more rows (state_row old) (state_row old) (state_row new) 0 (begun rows (state_row old)) c.act_word.ensures.put)
    (λ a le. state_past _ a le new c.act_word.ensures.sized ∙ sym (after_past _ a le s old c.requires.control_scan c.requires.sized))
