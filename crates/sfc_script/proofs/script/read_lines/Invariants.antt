use Rattle.std.proofs.Common.{◌+◌, ◌≤◌, length}
use Rattle.sfc_debug.specs.sfc_core.Agreement.{plant_of}
use Rattle.sfc_script.specs.Lines.{lines_of}
use Rattle.sfc_script.specs.Private.Repeating.{IsLast}
use Rattle.sfc_script.proofs.Said.{GoesOn}
use Rattle.sfc_script.proofs.script.read_lines.Given as goal

abbrev pub invariant-lines : goal.invariant-lines
invariant-lines l = record {
  counted : l.number + length l.rest ≤ length l.bytes + 1;
  said : GoesOn (plant_of l.fn.resource) (lines_of l.bytes) l.number l.script (lines_of l.rest);
  is_last : IsLast (plant_of l.fn.resource) l.last;
}

abbrev pub decreases-lines : goal.decreases-lines
decreases-lines l = length l.rest
