use Rattle.std.proofs.Common.{◌≡◌, ◌≤◌, take, length, vec_len, vec_capacity}
use Rattle.sfc_debug.proofs.breakpoints.Breakpoints.copy_from.Given as goal

abbrev pub invariant-loop-k : goal.invariant-loop-k
invariant-loop-k l = record {
  items : l.self-inside.set.items ≡ take l.k l.from;
  len : vec_len l.self-inside.set ≡ l.k;
  room : 64 ≤ vec_capacity l.self-inside.set;
  limit : length l.from ≤ 64;
}
