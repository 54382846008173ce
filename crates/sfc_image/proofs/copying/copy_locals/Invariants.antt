use Rattle.std.proofs.Common.{◌≡◌, ℕ, ◌<◌, length, take}
use Rattle.sfc_base.specs.Ticks.{Within}
use Rattle.sfc_image.specs.Private.OutputMemos.{memo_at}
use Rattle.sfc_image.proofs.copying.copy_locals.Given as goal

abbrev pub invariant-loop-k : goal.invariant-loop-k
invariant-loop-k l = record {
  locals : take l.k l.locals ≡ take l.k l.from;
  memos_len : length l.memos ≡ length l.initial.memos;
  memos : (j : ℕ) → j < l.k → (memo_at l.memos j).generation ≡ 0;
  ticks : Within l.k l.initial.ticks l.ticks;
}
