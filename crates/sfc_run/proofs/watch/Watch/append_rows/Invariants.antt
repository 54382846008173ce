use Rattle.std.proofs.Common.{◌≡◌}
use Rattle.sfc_run.specs.Printing.{GoesOn, Reaches, steered_of}
use Rattle.sfc_run.proofs.RowLines.{Along}
use Rattle.sfc_run.proofs.watch.Watch.append_rows.Given as goal

abbrev pub invariant-rows : goal.invariant-rows
invariant-rows l = record {
  rows : Along l.fn.self l.self l.fn.texts l.texts;
  known : Reaches l.fn.self.tail l.self.tail;
  ready : GoesOn l.self;
  steered : steered_of l.self ≡ steered_of l.fn.self;
}
