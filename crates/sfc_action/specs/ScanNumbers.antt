-- The same by the numbers of scans: the scans of a life are numbered from 1, and the newest has the highest number.
use Rattle.std.specs.Prelude.{ℕ, suc, ◌-◌, ◌<◌, ◌≤◌, ◌≡◌, ◌==◌, Bool, true}
use Rattle.std.specs.Prelude.{false, cond, List, [], ◌∷◌, length, ℤ, pos, ◌≤ℤ◌, ◌-ℤ◌}
use Rattle.sfc_tables.specs.Tables.{Tabled}
use Rattle.sfc_action.specs.ActionControl.{Scan, Letter, R, DS, input, stored, delayed, preset}

-- the value at the scan of this number, from the scans up to it; before the first scan it is 0
abbrev pub value_at : (List Scan → Bool) → List Scan → ℕ → Bool
value_at value [] i = false
value_at value (scan ∷ h) i = cond (i == suc (length h)) (value (scan ∷ h)) (value_at value h i)

-- an input of action a at the scan of this number
abbrev pub input_at : Tabled → ℕ → Letter → List Scan → ℕ → Bool
input_at tables a letter h i = value_at (input tables a letter) h i

-- T of action a at the scan of this number
abbrev pub preset_at : Tabled → ℕ → List Scan → ℕ → ℤ
preset_at tables a [] i = pos 0
preset_at tables a (scan ∷ h) i = cond (i == suc (length h)) (preset tables a scan) (preset_at tables a h i)

-- the instant of the scan of this number
abbrev pub instant_at : List Scan → ℕ → ℤ
instant_at [] i = pos 0
instant_at (scan ∷ h) i = cond (i == suc (length h)) scan.at (instant_at h i)

-- scan j has the input, and no scan k from it on has R
pub record IsStoredSince (tables : Tabled) (a : ℕ) (letter : Letter) (h : List Scan) (j : ℕ) : Type 0 where
  pub number : j ≤ length h
  pub comes : input_at tables a letter h j ≡ true
  pub unreset : (k : ℕ) → j ≤ k → k ≤ length h → input_at tables a R h k ≡ false

-- the input rises at scan m, is 1 from there on, and the time since is at least T of scan m
pub record HasActedSince (tables : Tabled) (a : ℕ) (letter : Letter) (h : List Scan) (m : ℕ) : Type 0 where
  pub after_none : 0 < m
  pub number : m ≤ length h
  pub rises : input_at tables a letter h (m - 1) ≡ false
  pub acts : (k : ℕ) → m ≤ k → k ≤ length h → input_at tables a letter h k ≡ true
  pub lasts : preset_at tables a h m ≤ℤ (instant_at h (length h) -ℤ instant_at h m)

-- SD, SL: stored since scan m and not at the one before, and the time since is at least T of scan m
pub record HasBeenStoredSince (tables : Tabled) (a : ℕ) (letter : Letter) (h : List Scan) (m : ℕ) : Type 0 where
  pub stored_since : IsStoredSince tables a letter h m
  pub rises : value_at (stored tables a letter) h (m - 1) ≡ false
  pub lasts : preset_at tables a h m ≤ℤ (instant_at h (length h) -ℤ instant_at h m)

-- DS: at scan j the on-delay of the input has elapsed, and no scan k from it on has R
pub record IsStoredOnceDelayed (tables : Tabled) (a : ℕ) (h : List Scan) (j : ℕ) : Type 0 where
  pub number : j ≤ length h
  pub elapsed : value_at (delayed tables a DS) h j ≡ true
  pub unreset : (k : ℕ) → j ≤ k → k ≤ length h → input_at tables a R h k ≡ false
