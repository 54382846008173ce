use Rattle.std.proofs.Common.{ℕ, length, ◌∙◌, sym, subst, arith}
use Rattle.sfc_action.specs.Private.Keeping.{IsStateSized}
use Rattle.sfc_action.specs.Private.Rows.{state_row}
use Rattle.sfc_flags.proofs.Wordwise.{begun, more, all_done}
use Rattle.sfc_action.proofs.Rows.{state_past}
use Rattle.sfc_action.proofs.control_state.ControlState.copy_all.Goals as goal

pub loop-number-preserved : goal.loop-number-preserved
loop-number-preserved c =
    let was = c.loop-number.invariant in
    record {
      sized = subst (λ (n : ℕ). IsStateSized n c.copy_word-in-loop-number.new.self) was.sized.q c.copy_word-in-loop-number.ensures.sized;
      blocks = c.copy_word-in-loop-number.ensures.blocks ∙ was.blocks;
      single = c.copy_word-in-loop-number.ensures.single ∙ was.single;
      rows = more (state_row c.args.other.now) (state_row c.args.self.now) (state_row c.loop-number.self) (state_row c.copy_word-in-loop-number.new.self)
          c.loop-number.number was.rows c.copy_word-in-loop-number.ensures.put;
      ticks = (omega (arith, c.tick-in-loop-number.ensures, was.ticks.0), omega (arith, c.tick-in-loop-number.ensures, was.ticks.1));
    }

pub returns-clause-rows : goal.returns-clause-rows
returns-clause-rows c =
    all_done (state_row c.args.other.now) (state_row c.args.self.now) (length c.args.self.now.q) c.loop-number.number (state_row c.loop-number.self)
    (omega (arith, c.words-number-end.ensures)) c.loop-number.invariant.rows
    (λ a le. state_past _ a le c.loop-number.self c.loop-number.invariant.sized ∙ sym (state_past _ a le c.args.other.now c.requires.other))

pub returns-then-words-eq1-clause-rows : goal.returns-then-words-eq1-clause-rows
returns-then-words-eq1-clause-rows c =
    let was = state_row c.args.self.now in let rows = state_row c.args.other.now in let new = c.copy_word.new.self in
    all_done rows was (length c.args.self.now.q) 1 (state_row new) (omega (arith, c.words.ensures, c.if-words-eq1.true))
    (more rows was was (state_row new) 0 (begun rows was) c.copy_word.ensures.put)
    (λ a le. state_past _ a le new c.copy_word.ensures.sized ∙ sym (state_past _ a le c.args.other.now c.requires.other))
