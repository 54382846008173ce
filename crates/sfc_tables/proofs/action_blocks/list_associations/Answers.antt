use Rattle.std.proofs.Common.{◌<◌, ◌∙◌, sym, length, subst, arith, List}
use Rattle.std.specs.Prelude.{All, map}
use Rattle.std.proofs.lemmas.List.{length-append, length-map}
use Rattle.sfc_base.specs.declared.references.StepId.{StepId}
use Rattle.sfc_plant.specs.declared.association.Association.{Association}
use Rattle.sfc_plant.specs.declared.chart.Step.{Step}
use Rattle.sfc_tables.specs.Actions.{number_of}
use Rattle.sfc_tables.specs.Tables.{numbered}
use Rattle.sfc_tables.proofs.Numberings.{next_step, length-numbered, steps_left}
use Rattle.sfc_tables.proofs.action_blocks.list_associations.Goals as goal

pub loop-s-preserved : goal.loop-s-preserved
loop-s-preserved c =
    let s = c.loop-s.s in
    let steps = c.args.steps.now in
    let step = c.index-steps-s.result in
    let done = c.loop-s.associations.items in
    let id : StepId = record { 0 = s } in
    let actions = c.args.actions.now in
    let pair : Association → StepId × Association = λ association. (id, association) in
    let block : List (StepId × Association) = map pair step.associations in
    rw (c.in_ok-add_step.ensures, c.as_slice.ensures) record {
      rest = next_step actions done s steps step c.loop-s-test.true c.index-steps-s.is ∙ c.loop-s.invariant.rest;
      few =
          omega (
            arith,
            length-append done (numbered actions (length done) block),
            length-numbered actions (length done) block,
            length-map step.associations pair,
            steps_left steps s step c.loop-s-test.true c.index-steps-s.is,
            c.loop-s.invariant.few,
          );
    }

pub add_step-requires : goal.add_step-requires
add_step-requires c =
    let step = c.index-steps-s.result in
    let actions = c.args.actions.now in
    let targets : All (λ (a : Association). (number_of actions a.target).0 < length actions) step.associations =
    subst (λ (x : Step). All (λ (a : Association). (number_of actions a.target).0 < length actions) x.associations)
    (sym c.index-steps-s.is) (c.requires.targets c.loop-s.s step c.loop-s-test.true) in
    rw c.as_slice.ensures record {
      few = omega (arith, steps_left c.args.steps.now c.loop-s.s step c.loop-s-test.true c.index-steps-s.is, c.loop-s.invariant.few);
      targets = targets;
    }
