use Rattle.std.proofs.Common.{◌≡◌, vec_len}
use Rattle.sfc_layout.proofs.table.Table.blank.Given as goal

abbrev pub invariant-loop : goal.invariant-loop
invariant-loop g l = vec_len l.table.rows ≡ l.counter
