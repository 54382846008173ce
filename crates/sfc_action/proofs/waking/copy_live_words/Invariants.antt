use Rattle.std.proofs.Common.{◌≡◌, ◌<◌, ◌||◌, ℕ, true, length, get_or}
use Rattle.sfc_flags.specs.Flags.{flag}
use Rattle.sfc_flags.specs.Words.{word_of, AreDone}
use Rattle.sfc_action.specs.declared.blocks.Block.{Block}
use Rattle.sfc_action.proofs.waking.copy_live_words.Given as goal

abbrev pub invariant-loop-number : goal.invariant-loop-number
invariant-loop-number l = record {
  len : length l.blocks ≡ length l.initial.blocks;
  size : length l.live ≡ length l.initial.live;
  flags : AreDone l.number (flag l.from_live) (flag l.initial.live) (flag l.live);
  kept : (k : ℕ) (d : Block) → get_or l.initial.blocks k d ≡ get_or l.from k d → get_or l.blocks k d ≡ get_or l.from k d;
  done : (k : ℕ) (d : Block) → word_of k < l.number → (flag l.initial.live k || flag l.from_live k) ≡ true
      → get_or l.blocks k d ≡ get_or l.from k d;
}
