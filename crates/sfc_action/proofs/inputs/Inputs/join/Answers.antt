use Rattle.std.proofs.Common.{◌≡◌, ℕ, get_or, arith, ap, subst, ◌∙◌}
use Rattle.std.specs.Prelude.{slice_set}
use Rattle.sfc_action.specs.declared.input_words.InputWords.{InputWords}
use Rattle.sfc_action.specs.Private.SetTables.{inputs_of}
use Rattle.sfc_action.specs.Private.Marking.{AreSized}
use Rattle.sfc_action.specs.Private.Marks.{with_all_plain}
use Rattle.sfc_action.specs.Private.Rows.{inputs_in, plain_in, input_row}
use Rattle.sfc_action.specs.Private.StepGiving.{IsRunOf, joined}
use Rattle.sfc_action.proofs.Joins.{join_table, join_rows}
use Rattle.sfc_action.proofs.SetTables.{inputs_size, inputs_sized}
use Rattle.sfc_action.proofs.inputs.Inputs.join.Goals as goal

pub index_mut-requires : goal.index_mut-requires
index_mut-requires c =
    let few = inputs_size c.self.inside.count c.self.inside.words.items c.args.self.now c.self.invariant c.self.view_is in
    omega (arith, few.0, c.requires.number)

run_of : (c : goal.After-self-1) → IsRunOf c.self.inside.count c.args.run.now
run_of c =
    let few = inputs_size c.self.inside.count c.self.inside.words.items c.args.self.now c.self.invariant c.self.view_is in
    rw few.1 c.requires

put : (c : goal.After-self-1) (a : ℕ) → inputs_in c.join.new.self a
    ≡ with_all_plain (plain_in c.args.run.now.plain a)
    (inputs_in (get_or c.self.inside.words.items c.args.run.now.number c.index_mut.result.now) a)
put c a =
    c.join.ensures a
    ∙ ap (λ (w : InputWords). with_all_plain (plain_in c.args.run.now.plain a) (inputs_in w a)) c.index_mut.ensures.value

pub invariant_of-self : goal.invariant_of-self
invariant_of-self c =
    join_table c.self.inside.count c.self.inside.words.items c.args.run.now c.index_mut.result.now c.join.new.self c.self.invariant (run_of c) (put c)

pub returns-clause-sized : goal.returns-clause-sized
returns-clause-sized c =
    let few = inputs_size c.self.inside.count c.self.inside.words.items c.args.self.now c.self.invariant c.self.view_is in
    let words = slice_set c.self.inside.words.items c.args.run.now.number c.join.new.self in
    subst (λ n. AreSized n (inputs_of c.self.inside.count words)) few.1 (inputs_sized c.self.inside.count words)

pub returns-clause-rows : goal.returns-clause-rows
returns-clause-rows c a =
    join_rows c.self.inside.count c.self.inside.words.items c.args.run.now c.index_mut.result.now c.join.new.self c.self.invariant (run_of c) (put c) a
    ∙ ap (λ s. joined a c.args.run.now (input_row s a)) c.self.view_is
