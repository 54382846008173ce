use Rattle.std.proofs.Common.{◌≡◌, ◌==◌, ℕ, cond, get_or, arith, ap, ◌∙◌}
use Rattle.sfc_flags.specs.Words.{word_of}
use Rattle.sfc_action.specs.declared.timed_words.TimedWords.{TimedWords}
use Rattle.sfc_action.specs.Private.Rows.{timed_in}
use Rattle.sfc_action.specs.Private.Marks.{with_timed}
use Rattle.sfc_action.specs.Private.TimedSets.{with_action}
use Rattle.sfc_action.proofs.SetTables.{timed_size, timed_more_table, timed_more}
use Rattle.sfc_action.proofs.timed.Timed.add.Goals as goal

pub index_mut-requires : goal.index_mut-requires
index_mut-requires c =
    let few = timed_size c.self.inside.count c.self.inside.words.items c.args.self.now c.self.invariant c.self.view_is in
    omega (arith, few.0, c.requires)

-- the word of the action has one input more
put : (c : goal.After-self-1) (b : ℕ) → word_of b ≡ word_of c.args.action → timed_in c.add.new.self b
    ≡ cond (b == c.args.action)
    (with_timed c.args.qualifier (timed_in (get_or c.self.inside.words.items (word_of c.args.action) c.index_mut.result.now) b))
    (timed_in (get_or c.self.inside.words.items (word_of c.args.action) c.index_mut.result.now) b)
put c b e =
    c.add.ensures b e
    ∙ ap (λ (w : TimedWords). cond (b == c.args.action) (with_timed c.args.qualifier (timed_in w b)) (timed_in w b)) c.index_mut.ensures.value

pub invariant_of-self : goal.invariant_of-self
invariant_of-self c =
    let few = timed_size c.self.inside.count c.self.inside.words.items c.args.self.now c.self.invariant c.self.view_is in
    timed_more_table c.self.inside.count c.args.action c.args.qualifier c.self.inside.words.items c.index_mut.result.now c.add.new.self
    c.self.invariant (omega (arith, few.1, c.requires)) (put c)

pub returns : goal.returns
returns c =
    let few = timed_size c.self.inside.count c.self.inside.words.items c.args.self.now c.self.invariant c.self.view_is in
    timed_more c.self.inside.count c.args.action c.args.qualifier c.self.inside.words.items c.index_mut.result.now c.add.new.self
    c.self.invariant (omega (arith, few.1, c.requires)) (put c)
    ∙ ap (with_action c.args.qualifier c.args.action) c.self.view_is
