use Rattle.std.proofs.Common.{List, take, subst, sym}
use Rattle.std.proofs.lemmas.List.{take_more, take_all}
use Rattle.sfc_tables.specs.declared.step_action.StepAction.{StepAction}
use Rattle.sfc_action.specs.Private.StepGiving.{given_of, IsGivenBy}
use Rattle.sfc_action.proofs.step_input.StepInput.new.Goals as goal

pub loop-association-preserved : goal.loop-association-preserved
loop-association-preserved c n all =
    let xs = c.args.associations.now in
    let k = c.loop-association.association-index in
    subst (λ (ys : List StepAction). IsGivenBy n ys (given_of c.add.new.self)) (sym (take_more xs k _ c.loop-association-test.true))
    (c.in_ok-add.ensures n (take k xs) (all k _ c.loop-association-test.true) (c.loop-association.invariant n all))

pub returns : goal.returns
returns c n all =
    let xs = c.args.associations.now in
    let k = c.loop-association.association-index in
    subst (λ (ys : List StepAction). IsGivenBy n ys (given_of c.loop-association.step_input)) (take_all k xs c.loop-association-test.false)
    (c.loop-association.invariant n all)
