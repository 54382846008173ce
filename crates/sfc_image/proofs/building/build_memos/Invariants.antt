use Rattle.std.proofs.Common.{◌≡◌, ℕ, ◌<◌, length}
use Rattle.sfc_image.specs.Private.OutputMemos.{memo_at}
use Rattle.sfc_image.proofs.building.build_memos.Given as goal

abbrev pub invariant-loop-k : goal.invariant-loop-k
invariant-loop-k l = record {
  instances : length l.memos.items ≡ l.k;
  none : (j : ℕ) → j < l.k → (memo_at l.memos.items j).generation ≡ 0;
}
