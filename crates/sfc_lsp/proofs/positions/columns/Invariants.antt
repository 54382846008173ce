use Rattle.std.proofs.Common.{◌≡◌, ◌≤◌, ◌+◌, ◌*◌, length}
use Rattle.sfc_lsp.specs.Positions as positions
use Rattle.sfc_lsp.proofs.positions.columns.Given as goal

abbrev pub invariant-all : goal.invariant-all
invariant-all l = record {
  value : positions.columns 0 l.bytes ≡ positions.columns l.count l.rest;
  small : l.count + 2 * length l.rest ≤ 2 * length l.bytes;
}

abbrev pub decreases-all : goal.decreases-all
decreases-all l = length l.rest
