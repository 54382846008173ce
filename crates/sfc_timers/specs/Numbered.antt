-- The look-backs by the numbers of scans: a history of n calls has them at the numbers from 1 to n, the newest at n.
use Rattle.std.specs.Prelude.{ℕ, suc, ◌-◌, ◌<◌, ◌≤◌, ◌≡◌, ◌==◌, Bool, true, false, cond, List, [], ◌∷◌, length, pos, ◌≤ℤ◌, ◌-ℤ◌}
use Rattle.sfc_timers.specs.Timers.{Bistable, Reading, s_of, r_of, input_of, preset_of, instant_of}

-- the call of this number; `none` where there is none
abbrev pub call_at : {A : Type 0} → A → List A → ℕ → A
call_at none [] i = none
call_at none (x ∷ xs) i = cond (i == suc (length xs)) x (call_at none xs i)

abbrev pub s_at : List Bistable → ℕ → Bool
s_at h i = s_of (call_at (false, false) h i)

abbrev pub r_at : List Bistable → ℕ → Bool
r_at h i = r_of (call_at (false, false) h i)

-- scan j has S, and no scan k from it on has R
pub record IsSetSince (h : List Bistable) (j : ℕ) : Type 0 where
  pub number : j ≤ length h
  pub is_set : s_at h j ≡ true
  pub unreset : (k : ℕ) → j ≤ k → k ≤ length h → r_at h k ≡ false

-- the reading of a scan; before the first scan the input is false
abbrev pub reading_at : List Reading → ℕ → Reading
reading_at h i = call_at (false, pos 0, pos 0) h i

-- the input rises at scan m, is true from there on, and the time since is at least PT of scan m
pub record HasRunSince (h : List Reading) (m : ℕ) : Type 0 where
  pub after_none : 0 < m
  pub number : m ≤ length h
  pub rises : input_of (reading_at h (m - 1)) ≡ false
  pub runs : (k : ℕ) → m ≤ k → k ≤ length h → input_of (reading_at h k) ≡ true
  pub lasts : preset_of (reading_at h m) ≤ℤ (instant_of (reading_at h (length h)) -ℤ instant_of (reading_at h m))
