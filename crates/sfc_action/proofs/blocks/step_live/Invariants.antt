use Rattle.std.proofs.Common.{◌≡◌, ◌<◌, ◌≤◌, ◌-◌, ◌*◌, ℕ, true, false, length, take}
use Rattle.std.specs.Prelude.{slice_index_or}
use Rattle.sfc_base.specs.Ticks.{Within}
use Rattle.sfc_flags.specs.Flags.{flag}
use Rattle.sfc_action.specs.declared.blocks.Block.{Block}
use Rattle.sfc_action.specs.Private.TimedSets.{AreAll}
use Rattle.sfc_action.specs.Private.Delays.{input_of, preset_of, IsStepped, gathered}
use Rattle.sfc_action.specs.Private.Live.{IsIdle}
use Rattle.sfc_action.proofs.blocks.step_live.Given as goal

abbrev pub invariant-live : goal.invariant-live
invariant-live l = record {
  size : length l.live ≡ length l.initial.live;
  done : (k : ℕ) (d : Block) → k < l.at → IsStepped
      (flag (input_of (slice_index_or l.initial.blocks k d).qualifier l.call.inputs.now l.call.stores.now)
      (slice_index_or l.initial.blocks k d).action.0)
      (preset_of l.call.inputs.now l.call.presets.now (slice_index_or l.initial.blocks k d).action.0) l.call.t
      (slice_index_or l.initial.blocks k d) (slice_index_or l.blocks k d);
  rest : (k : ℕ) (d : Block) → l.at ≤ k → slice_index_or l.blocks k d ≡ slice_index_or l.initial.blocks k d;
  unseen : (k : ℕ) → l.at ≤ k → flag l.live k ≡ flag l.initial.live k;
  idle : (k : ℕ) (d : Block) → k < l.at → flag l.live k ≡ false → IsIdle (slice_index_or l.blocks k d);
  sized : AreAll (length l.call.presets.now) l.elapsed;
  sets : l.elapsed ≡ gathered (take l.at l.blocks) l.initial.elapsed;
  all_idle : l.are_idle ≡ true → (k : ℕ) → k < l.at → flag l.live k ≡ false;
  within : l.at ≤ length l.live;
  ticks : Within (2 * l.at) l.initial.ticks l.ticks;
}

abbrev pub decreases-live : goal.decreases-live
decreases-live l = length l.initial.live - l.at
