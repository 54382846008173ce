use Rattle.sfc_instances.specs.Agreement.{AreFor}
use Rattle.sfc_instances.specs.Private.Copying.{AreTaken}
use Rattle.sfc_instances.proofs.instances.copy_programs.Given as goal

abbrev pub invariant-loop-k : goal.invariant-loop-k
invariant-loop-k l = record {
  sizes : AreFor l.plant l.programs;
  done : AreTaken l.plant l.k l.from l.programs;
}
