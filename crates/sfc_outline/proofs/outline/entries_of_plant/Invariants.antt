use Rattle.std.proofs.Common.{All}
use Rattle.sfc_outline.specs.Naming.{IsEntryNamedBy}
use Rattle.sfc_outline.specs.Places.{IsEntryOf}
use Rattle.sfc_outline.proofs.outline.entries_of_plant.Given as goal

abbrev pub invariant-loop-entry : goal.invariant-loop-entry
invariant-loop-entry l = All (IsEntryOf l.text) l.right.items × All (IsEntryNamedBy l.text l.plant) l.right.items
