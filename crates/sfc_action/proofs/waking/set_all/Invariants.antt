use Rattle.std.proofs.Common.{◌≡◌, ◌<◌, ◌==◌, ℕ, true, length, take}
use Rattle.std.specs.List.{list_any}
use Rattle.sfc_flags.specs.Flags.{flag}
use Rattle.sfc_action.proofs.waking.set_all.Given as goal

abbrev pub invariant-loop-place : goal.invariant-loop-place
invariant-loop-place l = record {
  size : length l.live ≡ length l.initial.live;
  kept : (k : ℕ) → flag l.initial.live k ≡ true → flag l.live k ≡ true;
  set : (k : ℕ) → k < length l.initial.live → list_any (λ p. p == k) (take l.place-index l.places) ≡ true → flag l.live k ≡ true;
}
