use Rattle.std.proofs.Common.{◌≡◌, ◌≤◌, ◌+◌, length}
use Rattle.sfc_why.specs.Positions as positions
use Rattle.sfc_why.proofs.position.line_behind.Given as goal

abbrev pub invariant-all : goal.invariant-all
invariant-all l = record {
  value : positions.line_behind 1 l.bytes ≡ positions.line_behind l.line l.rest;
  small : l.line + length l.rest ≤ 1 + length l.bytes;
}

abbrev pub decreases-all : goal.decreases-all
decreases-all l = length l.rest
