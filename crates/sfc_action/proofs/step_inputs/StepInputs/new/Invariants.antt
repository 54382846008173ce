use Rattle.sfc_action.specs.Private.StepGiving.{AreGivenTo}
use Rattle.sfc_action.proofs.step_inputs.StepInputs.new.Given as goal

abbrev pub invariant-loop-s : goal.invariant-loop-s
invariant-loop-s l = AreGivenTo l.tables l.s l.step_inputs
