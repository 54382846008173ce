use Rattle.std.proofs.Common.{◌≡◌, ◌+◌, ◌≤◌, [], length}
use Rattle.sfc_debug.specs.sfc_core.Agreement.{plant_of}
use Rattle.sfc_script.specs.Lines.{lines_of}
use Rattle.sfc_cases.specs.Conditions.{IsReader, Reader}
use Rattle.sfc_cases.specs.Files.{read_from}
use Rattle.sfc_cases.specs.Reading.{onto}
use Rattle.sfc_cases.proofs.test_file.read_lines.Given as goal

abbrev pub invariant-lines : goal.invariant-lines
invariant-lines l = record {
  within : length l.rest ≤ length l.bytes;
  counted : l.number + length l.rest ≤ length l.bytes + 1;
  said : (read : Reader) → IsReader read → read_from (plant_of l.resource) read 1 [] [] (lines_of l.bytes)
      ≡ onto l.file.lines.items (read_from (plant_of l.resource) read l.number l.names.items l.file.table.items (lines_of l.rest));
}

abbrev pub decreases-lines : goal.decreases-lines
decreases-lines l = length l.rest
