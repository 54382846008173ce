use Rattle.std.proofs.Common.{◌≡◌, ℕ, true, false, length, get_or}
use Rattle.sfc_flags.specs.Words.{has, word_of}
use Rattle.sfc_flags.proofs.Fewer.{set_count}
use Rattle.sfc_action.specs.declared.blocks.Block.{Block}
use Rattle.sfc_action.proofs.waking.copy_word.Given as goal

abbrev pub invariant-live : goal.invariant-live
invariant-live l = record {
  len : length l.blocks ≡ length l.initial.blocks;
  flags : (k : ℕ) → has l.left k ≡ true → has l.fn.live k ≡ true;
  kept : (k : ℕ) (d : Block) → get_or l.initial.blocks k d ≡ get_or l.from k d → get_or l.blocks k d ≡ get_or l.from k d;
  taken : (k : ℕ) (d : Block) → word_of k ≡ l.word → has l.fn.live k ≡ true → has l.left k ≡ false
      → get_or l.blocks k d ≡ get_or l.from k d;
}

abbrev pub decreases-live : goal.decreases-live
decreases-live l = set_count (has l.left) 64
