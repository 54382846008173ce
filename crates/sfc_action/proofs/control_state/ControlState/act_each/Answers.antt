use Rattle.std.proofs.Common.{ℕ, length, ◌∙◌, ap, sym, subst, arith}
use Rattle.sfc_action.specs.Private.Keeping.{IsStateSized}
use Rattle.sfc_action.specs.Private.Rows.{state_row, state_after, state_row_after, input_row, store_row, timed_row}
use Rattle.sfc_flags.proofs.Wordwise.{more_by, all_done}
use Rattle.sfc_action.proofs.Rows.{state_past, after_past}
use Rattle.sfc_action.proofs.control_state.ControlState.act_each.Goals as goal

pub loop-number-preserved : goal.loop-number-preserved
loop-number-preserved c =
    let was = c.loop-number.invariant in
    let s = c.args.control_scan.now in
    record {
      sized = subst (λ (n : ℕ). IsStateSized n c.act_word.new.self) was.sized.q c.act_word.ensures.sized;
      blocks = c.act_word.ensures.blocks ∙ was.blocks;
      single = c.act_word.ensures.single ∙ was.single;
      rows = more_by (state_row_after s (state_row c.args.self.now)) (state_row c.args.self.now)
          (state_row_after s (state_row c.loop-number.self)) (state_row c.loop-number.self) (state_row c.act_word.new.self) c.loop-number.number
          was.rows c.act_word.ensures.put
          (λ a at. ap (state_after (input_row s.inputs a) (store_row s.stores a) (timed_row s.elapsed a)) (was.rows.rest a (omega (arith, at))));
      ticks = (omega (arith, c.tick.ensures, was.ticks.0), omega (arith, c.tick.ensures, was.ticks.1));
    }

pub returns-clause-rows : goal.returns-clause-rows
returns-clause-rows c =
    let s = c.args.control_scan.now in let old = c.args.self.now in
    all_done (state_row_after s (state_row old)) (state_row old) (length old.q) c.loop-number.number (state_row c.loop-number.self)
    (omega (arith, c.words-number-end.ensures)) c.loop-number.invariant.rows
    (λ a le. state_past _ a le c.loop-number.self c.loop-number.invariant.sized ∙ sym (after_past _ a le s old c.requires.control_scan c.requires.sized))
