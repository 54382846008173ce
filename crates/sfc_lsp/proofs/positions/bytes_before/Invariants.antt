use Rattle.std.proofs.Common.{◌≡◌, ◌≤◌, ◌+◌, length}
use Rattle.sfc_lsp.specs.Positions as positions
use Rattle.sfc_lsp.proofs.positions.bytes_before.Given as goal

abbrev pub invariant-all : goal.invariant-all
invariant-all l = record {
  value : positions.bytes_before 0 l.column l.line ≡ positions.bytes_before l.count l.left l.rest;
  small : l.count + length l.rest ≤ length l.line;
}

abbrev pub decreases-all : goal.decreases-all
decreases-all l = length l.rest
