use Rattle.std.proofs.Common.{◌≡◌, vec_len}
use Rattle.sfc_layout.proofs.table.Table.from_slice.Given as goal

abbrev pub invariant-loop-row : goal.invariant-loop-row
invariant-loop-row g l = vec_len l.table.rows ≡ l.row-index
