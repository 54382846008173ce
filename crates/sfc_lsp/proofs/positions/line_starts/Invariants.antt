use Rattle.std.proofs.Common.{◌≡◌, ◌≤◌, ◌+◌, ◌++◌, length}
use Rattle.sfc_lsp.specs.Positions as positions
use Rattle.sfc_lsp.proofs.positions.line_starts.Given as goal

abbrev pub invariant-all : goal.invariant-all
invariant-all l = record {
  value : positions.line_starts l.text ≡ l.starts.items ++ positions.starts_behind l.place l.rest;
  small : l.place + length l.rest ≤ length l.text;
}

abbrev pub decreases-all : goal.decreases-all
decreases-all l = length l.rest
