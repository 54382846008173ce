-- How associations lie in groups of one step or one action.
use Rattle.std.specs.Prelude.{◌≡◌, ℕ, ◌+◌, ◌<◌, ◌≤◌, ◌==◌, nat_le, List, length, map, filter, slice_index, slice_range}
use Rattle.std.specs.List.{position_or_len, range_with_len}
use Rattle.sfc_tables.specs.declared.step_action.StepAction.{StepAction}

-- the first place from which on rising numbers are at least k
abbrev pub first_from : List ℕ → ℕ → ℕ
first_from numbers k = position_or_len (λ x. nat_le k x) numbers

-- the first places of n groups and the end of the last
abbrev pub first_places : List ℕ → ℕ → List ℕ
first_places numbers n = map (first_from numbers) (range_with_len 0 (n + 1))

-- those of action k
abbrev pub with_action : ℕ → List StepAction → List StepAction
with_action k members = filter (λ member. member.action.0 == k) members

-- group k of these members are those of all whose key is k, where groups begin at these places
pub record IsGrouping (key : StepAction → ℕ) (n : ℕ) (all members : List StepAction) (starts : List ℕ) : Type 0 where
  pub sized : length starts ≡ n + 1
  pub rises : (k : ℕ) → k < n → slice_index starts k ≤ slice_index starts (k + 1)
  pub within : (k : ℕ) → k < n → slice_index starts (k + 1) ≤ length members
  pub group : (k : ℕ) → k < n
      → slice_range members (slice_index starts k) (slice_index starts (k + 1)) ≡ filter (λ member. key member == k) all
