use Rattle.std.proofs.Common.{◌≡◌, ◌==◌, ℕ, cond, get_or, arith, ap, ◌∙◌, pos}
use Rattle.sfc_plant.specs.declared.association.Qualifier.TheVariants.{Timed}
use Rattle.sfc_plant.specs.declared.association.Time.TheVariants.{Literal}
use Rattle.sfc_flags.specs.Words.{word_of}
use Rattle.sfc_action.specs.declared.input_words.InputWords.{InputWords}
use Rattle.sfc_action.specs.Private.Rows.{inputs_in}
use Rattle.sfc_action.specs.Private.Marks.{with_time}
use Rattle.sfc_action.specs.Private.Marking.{marked_timed}
use Rattle.sfc_action.proofs.SetTables.{inputs_size, inputs_more_table, inputs_more}
use Rattle.sfc_action.proofs.inputs.Inputs.mark_timed.Goals as goal

pub index_mut-requires : goal.index_mut-requires
index_mut-requires c =
    let few = inputs_size c.self.inside.count c.self.inside.words.items c.args.self.now c.self.invariant c.self.view_is in
    omega (arith, few.0, c.requires)

-- the word of the action has one input more
put : (c : goal.After-self-1) (b : ℕ) → word_of b ≡ word_of c.args.action → inputs_in c.mark_timed.new.self b
    ≡ cond (b == c.args.action)
    (with_time c.args.qualifier (inputs_in (get_or c.self.inside.words.items (word_of c.args.action) c.index_mut.result.now) b))
    (inputs_in (get_or c.self.inside.words.items (word_of c.args.action) c.index_mut.result.now) b)
put c b e =
    c.mark_timed.ensures b e
    ∙ ap (λ (w : InputWords). cond (b == c.args.action) (with_time c.args.qualifier (inputs_in w b)) (inputs_in w b)) c.index_mut.ensures.value

pub invariant_of-self : goal.invariant_of-self
invariant_of-self c =
    let few = inputs_size c.self.inside.count c.self.inside.words.items c.args.self.now c.self.invariant c.self.view_is in
    inputs_more_table c.self.inside.count c.args.action (Timed c.args.qualifier (Literal (pos 0))) c.self.inside.words.items c.index_mut.result.now c.mark_timed.new.self
    c.self.invariant (omega (arith, few.1, c.requires)) (put c)

pub returns : goal.returns
returns c =
    let few = inputs_size c.self.inside.count c.self.inside.words.items c.args.self.now c.self.invariant c.self.view_is in
    inputs_more c.self.inside.count c.args.action (Timed c.args.qualifier (Literal (pos 0))) c.self.inside.words.items c.index_mut.result.now c.mark_timed.new.self
    c.self.invariant (omega (arith, few.1, c.requires)) (put c)
    ∙ ap (marked_timed c.args.qualifier c.args.action) c.self.view_is
