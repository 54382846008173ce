-- The releases of a task by the stretches between its scans (2.7.2).
use Rattle.std.specs.Prelude.{ℕ, ◌≡◌, ◌==◌, not, Bool, true, false, List, [], ◌∷◌, ◌++◌, All, Contains, sum_by, count_by, filter}
use Rattle.std.specs.Prelude.{ℤ}
use Rattle.sfc_tasks.specs.Calls.{Call, Elapsed, Rose, Served, single_of, serves, last_instant}
use Rattle.sfc_tasks.specs.Releases.{released, beyond_first}
use Rattle.sfc_tasks.specs.Meaning.{IsMultipleBetween}

-- ---- how the calls are cut

-- none of the calls serves task k
abbrev pub IsUnserved : ℕ → List Call → Type 0
IsUnserved k calls = All (λ call. serves k call ≡ false) calls

-- the calls of these stretches, the latest first, and before each the scan of task k that ended it
abbrev pub with_scans : ℕ → List (List Call) → List Call
with_scans k [] = []
with_scans k (stretch ∷ ended) = Served (record { 0 = k }) ∷ stretch ++ with_scans k ended

-- The calls are cut at the scans of task k, and nowhere else: into those since its latest scan, and the stretches that its
-- scans ended, each of which began at the scan before.
pub record AreStretches (k : ℕ) (calls since : List Call) (ended : List (List Call)) : Type 0 where
  pub whole : calls ≡ since ++ with_scans k ended
  pub since_unserved : IsUnserved k since
  pub ended_unserved : All (IsUnserved k) ended

-- ---- what a stretch releases

-- the releases of task k in a stretch, in the order in which they came; `before` are the calls before it
abbrev pub releases_in : ℤ → ℕ → List Call → List Call → List ℤ
releases_in interval k before [] = []
releases_in interval k before (call ∷ stretch) =
    releases_in interval k before stretch ++ released interval k (last_instant (stretch ++ before)) call

-- of each stretch that a scan ended, its releases
abbrev pub releases_by_scan : ℤ → ℕ → List (List Call) → List (List ℤ)
releases_by_scan interval k [] = []
releases_by_scan interval k (stretch ∷ ended) =
    releases_in interval k (with_scans k ended) stretch ∷ releases_by_scan interval k ended

abbrev pub is_some_release : List ℤ → Bool
is_some_release [] = false
is_some_release (u ∷ us) = true

-- how many came in such a stretch beyond its first
abbrev pub beyond_firsts : ℤ → ℕ → List (List Call) → ℕ
beyond_firsts interval k ended = sum_by beyond_first (releases_by_scan interval k ended)

-- how many of the scans had a release to serve
abbrev pub serving_scans : ℤ → ℕ → List (List Call) → ℕ
serving_scans interval k ended = count_by is_some_release (releases_by_scan interval k ended)

-- the call is a rise of what the SINGLE of task k reads
abbrev pub is_rise_of : ℕ → Call → Bool
is_rise_of k (Elapsed t singles) = false
is_rise_of k (Rose task t) = task.0 == k
is_rise_of k (Served task) = false

-- the releases in a stretch that are multiples of the interval
abbrev pub multiples_in : ℤ → ℕ → List Call → List Call → List ℤ
multiples_in interval k before stretch = releases_in interval k before (filter (λ call. not (is_rise_of k call)) stretch)

-- ---- the same by what they are

-- some call of the stretch released task k at u
pub record IsReleasedIn (interval : ℤ) (k : ℕ) (before stretch : List Call) (u : ℤ) : Type 0 where
  pub later : List Call
  pub call : Call
  pub earlier : List Call
  pub splits : stretch ≡ later ++ call ∷ earlier
  pub releases : Contains (released interval k (last_instant (earlier ++ before)) call) u

-- u is a multiple that came in the stretch while SINGLE read 0
pub record IsMultipleIn (interval : ℤ) (k : ℕ) (before stretch : List Call) (u : ℤ) : Type 0 where
  pub later : List Call
  pub t : ℤ
  pub singles : List Bool
  pub earlier : List Call
  pub splits : stretch ≡ later ++ Elapsed t singles ∷ earlier
  pub single : single_of singles k ≡ false
  pub multiple : IsMultipleBetween interval (last_instant (earlier ++ before)) t u
