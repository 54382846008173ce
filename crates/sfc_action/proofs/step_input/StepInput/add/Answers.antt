use Rattle.std.proofs.Common.{◌≡◌, false, ap, refl}
use Rattle.sfc_action.specs.ActionControl.{is_timed}
use Rattle.sfc_action.specs.Private.StepGiving.{given_of}
use Rattle.sfc_action.proofs.StepGiving.{input_timed, input_plain, not_timed}
use Rattle.sfc_action.proofs.step_input.StepInput.add.Goals as goal

pub returns-in-Timed : goal.returns-in-Timed
returns-in-Timed c n xs lt was =
    input_timed xs c.args.association.now n (given_of c.args.self.now) _ (ap is_timed c.in-Timed.is) refl c.in_ok-push.ensures.items was

pub returns : goal.returns
returns c n xs lt was =
    let added = c.in_ok-add_plain.ensures in
    let x = c.args.association.now in
    let plain : is_timed x.qualifier ≡ false = not_timed x.qualifier c.in_default.not-Timed in
    input_plain xs x n (given_of c.args.self.now) _ plain added.rows (added.within n lt) added.few refl was
