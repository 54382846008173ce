use Rattle.std.proofs.Common.{◌≡◌, length, arith, ap, sym, subst, ◌∙◌}
use Rattle.std.specs.Vec.{with_items}
use Rattle.std.proofs.lemmas.List.{with_items_is}
use Rattle.sfc_action.specs.Private.SetTables.{inputs_of, IsInputTable}
use Rattle.sfc_action.specs.Private.Marking.{cleared}
use Rattle.sfc_action.proofs.SetTables.{inputs_size, inputs_clear}
use Rattle.sfc_action.proofs.inputs.Inputs.clear.Goals as goal

now_clear : (c : goal.After-self-1) → IsInputTable c.self.inside.count c.clear_words.new.words
    × (inputs_of c.self.inside.count c.clear_words.new.words ≡ cleared c.self.inside.count)
now_clear c =
    inputs_clear c.self.inside.count c.clear_words.new.words
    (omega (arith, c.clear_words.ensures.len, ap length c.deref_mut.ensures.value, c.self.invariant.sized)) c.clear_words.ensures.clear

pub invariant_of-self : goal.invariant_of-self
invariant_of-self c =
    let v = c.self.inside.words in
    let e : (with_items v c.clear_words.new.words).items ≡ c.clear_words.new.words = with_items_is v c.clear_words.new.words (omega arith) in
    subst (IsInputTable c.self.inside.count) (sym e) (now_clear c).0

pub returns-clause-inputs : goal.returns-clause-inputs
returns-clause-inputs c =
    let v = c.self.inside.words in
    let e : (with_items v c.clear_words.new.words).items ≡ c.clear_words.new.words = with_items_is v c.clear_words.new.words (omega arith) in
    ap (inputs_of c.self.inside.count) e ∙ (now_clear c).1
    ∙ ap cleared (inputs_size c.self.inside.count v.items c.args.self.now c.self.invariant c.self.view_is).1

pub returns-clause-ticks : goal.returns-clause-ticks
returns-clause-ticks c =
    let few = inputs_size c.self.inside.count c.self.inside.words.items c.args.self.now c.self.invariant c.self.view_is in
    let words = ap length c.deref_mut.ensures.value in
    (omega (arith, c.clear_words.ensures.ticks.0), omega (arith, c.clear_words.ensures.ticks.1, few.0, words))
