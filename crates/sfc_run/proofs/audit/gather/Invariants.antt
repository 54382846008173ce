use Rattle.sfc_run.specs.Auditing.{Gathers}
use Rattle.sfc_run.proofs.audit.gather.Given as goal

abbrev pub invariant-ends : goal.invariant-ends
invariant-ends g l = Gathers l.fn.console l.fn.keeper.console l.yielded l.returned
