use Rattle.sfc_run.specs.Keeping.{Cuts}
use Rattle.sfc_run.proofs.keeper.Keeper.keep.Given as goal

abbrev pub invariant-looks : goal.invariant-looks
invariant-looks g l = Cuts l.initial.self.console l.self.console
