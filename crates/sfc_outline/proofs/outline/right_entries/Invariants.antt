use Rattle.std.proofs.Common.{All}
use Rattle.sfc_outline.specs.Places.{IsEntryOf}
use Rattle.sfc_outline.proofs.outline.right_entries.Given as goal

abbrev pub invariant-loop-entry : goal.invariant-loop-entry
invariant-loop-entry l = All (IsEntryOf l.text) l.right.items
