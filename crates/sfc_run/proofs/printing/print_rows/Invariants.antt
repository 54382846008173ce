use Rattle.sfc_run.specs.Printing.{FollowsRun, Reaches}
use Rattle.sfc_run.proofs.RowLines.{HasTold}
use Rattle.sfc_run.proofs.printing.print_rows.Given as goal

abbrev pub invariant-rounds : goal.invariant-rounds
invariant-rounds g l = record {
  lines : HasTold g.W.Write.contents g.T.Write.contents g.F.Write.contents l.initial.printing l.printing;
  known : Reaches l.initial.printing.watch.tail l.printing.watch.tail;
  follows : FollowsRun g.L.OpenedWith.plant g.L.OpenedWith.table l.printing.watch;
}
