use Rattle.std.proofs.Common.{◌≡◌, ◌≤◌, ◌+◌, length}
use Rattle.sfc_why.specs.Positions as positions
use Rattle.sfc_why.proofs.position.column_behind.Given as goal

abbrev pub invariant-all : goal.invariant-all
invariant-all l = record {
  value : positions.column_behind 1 l.bytes ≡ positions.column_behind l.column l.rest;
  small : l.column + length l.rest ≤ 1 + length l.bytes;
}

abbrev pub decreases-all : goal.decreases-all
decreases-all l = length l.rest
