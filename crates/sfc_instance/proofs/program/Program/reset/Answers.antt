use Rattle.std.proofs.Common.{[], refl}
use Rattle.sfc_instance.specs.Agreement.{ProgramAgrees}
use Rattle.sfc_instance.proofs.program.Program.reset.Goals as goal

pub returns-clause-agrees : goal.returns-clause-agrees
unfolding ProgramAgrees
returns-clause-agrees c instance_state agrees = record {
  now = c.copy_from.ensures.agrees [] agrees.fresh;
  fresh = agrees.fresh;
  scans = refl;
  at = refl;
  fault = refl;
  place = refl;
}
