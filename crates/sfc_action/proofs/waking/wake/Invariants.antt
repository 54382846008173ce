use Rattle.std.proofs.Common.{◌≡◌, ◌<◌, ◌≤◌, ◌+◌, ◌-◌, ℕ, true, length}
use Rattle.sfc_flags.specs.Flags.{flag}
use Rattle.sfc_action.specs.Private.Live.{has_place}
use Rattle.sfc_action.proofs.waking.wake.Given as goal

abbrev pub invariant-called : goal.invariant-called
invariant-called l = record {
  size : length l.live ≡ length l.initial.live;
  kept : (k : ℕ) → flag l.initial.live k ≡ true → flag l.live k ≡ true;
  awake : (a k : ℕ) → a < l.at → k < length l.initial.live → flag l.called a ≡ true → has_place l.places a k ≡ true
      → flag l.live k ≡ true;
  within : l.at ≤ length l.called;
  rises : l.initial.ticks.count ≤ l.ticks.count;
  ticks : l.ticks.count + (length l.called - l.at) ≤ l.initial.ticks.count + length l.called;
}

abbrev pub decreases-called : goal.decreases-called
decreases-called l = length l.called - l.at
