-- The releases of a task, counted by the stretches between its scans.
use Rattle.std.proofs.Common.{◌≡◌, ℕ, ◌+◌, arith, List, [], ◌∷◌, ◌++◌, length, length-append, append_assoc, append-nil, Bool, false, cond, sum_by, ℤ, All, Contains, refl, sym, ◌∙◌, ap, subst, inl, inr}
use Rattle.std.proofs.lemmas.List.Elements.{All-head, All-tail, Contains-append_left, Contains-append_right, Contains-append_cases}
use Rattle.std.proofs.lemmas.List.Sums.{sum_by-cons}
use Rattle.sfc_tasks.specs.Calls.{Call, serves, last_instant}
use Rattle.sfc_tasks.specs.Releases.{released, waiting, beyond_first, late_releases, capped, overruns}
use Rattle.sfc_tasks.specs.Stretches.{IsUnserved, with_scans, AreStretches, releases_in, releases_by_scan, is_some_release}
use Rattle.sfc_tasks.specs.Stretches.{beyond_firsts, serving_scans, IsReleasedIn}
use Rattle.sfc_tasks.proofs.Cutting.{scan_of, serves_itself}
use Rattle.sfc_tasks.proofs.Waited.{none_contained, waits_served, waits_more}

-- ---- what waits

waits_from_scan : (interval : ℤ) (k : ℕ) (ended : List (List Call)) → waiting interval k (with_scans k ended) ≡ []
waits_from_scan interval k [] = refl
waits_from_scan interval k (stretch ∷ ended) =
    waits_served interval k (scan_of k) (stretch ++ with_scans k ended) (serves_itself k)

waits_behind : (interval : ℤ) (k : ℕ) (before since : List Call) → waiting interval k before ≡ [] → IsUnserved k since
    → waiting interval k (since ++ before) ≡ releases_in interval k before since
waits_behind interval k before [] e unserved = e
waits_behind interval k before (call ∷ since) e unserved =
    waits_more interval k call (since ++ before) (All-head (λ (x : Call). serves k x ≡ false) call since unserved)
    ∙ ap (λ (us : List ℤ). us ++ released interval k (last_instant (since ++ before)) call)
    (waits_behind interval k before since e (All-tail (λ (x : Call). serves k x ≡ false) call since unserved))

pub waits_since_scan : (interval : ℤ) (k : ℕ) (since : List Call) (ended : List (List Call)) → IsUnserved k since
    → waiting interval k (since ++ with_scans k ended) ≡ releases_in interval k (with_scans k ended) since
waits_since_scan interval k since ended unserved =
    waits_behind interval k (with_scans k ended) since (waits_from_scan interval k ended) unserved

-- ---- overruns

late_kept : (interval : ℤ) (k : ℕ) (before since : List Call) → IsUnserved k since
    → late_releases interval k (since ++ before) ≡ late_releases interval k before
late_kept interval k before [] unserved = refl
late_kept interval k before (call ∷ since) unserved =
    let rest : late_releases interval k (since ++ before) ≡ late_releases interval k before =
    late_kept interval k before since (All-tail (λ (x : Call). serves k x ≡ false) call since unserved) in
    let here : cond (serves k call) (beyond_first (waiting interval k (since ++ before))) 0 ≡ 0 =
    ap (λ (b : Bool). cond b (beyond_first (waiting interval k (since ++ before))) 0)
    (All-head (λ (x : Call). serves k x ≡ false) call since unserved) in
    omega (arith, rest, here)

late_at_scan : (interval : ℤ) (k : ℕ) (calls : List Call)
    → late_releases interval k (scan_of k ∷ calls) ≡ late_releases interval k calls + beyond_first (waiting interval k calls)
late_at_scan interval k calls =
    ap (λ (b : Bool). late_releases interval k calls + cond b (beyond_first (waiting interval k calls)) 0) (serves_itself k)

late_by_scan : (interval : ℤ) (k : ℕ) (ended : List (List Call)) → All (IsUnserved k) ended
    → late_releases interval k (with_scans k ended) ≡ beyond_firsts interval k ended
late_by_scan interval k [] unserved = refl
late_by_scan interval k (stretch ∷ ended) unserved =
    let before : List Call = with_scans k ended in
    let us : List ℤ = releases_in interval k before stretch in
    let here : IsUnserved k stretch = All-head (IsUnserved k) stretch ended unserved in
    let older : late_releases interval k before ≡ beyond_firsts interval k ended =
    late_by_scan interval k ended (All-tail (IsUnserved k) stretch ended unserved) in
    let agrees : late_releases interval k (stretch ++ before) ≡ late_releases interval k before = late_kept interval k before stretch here in
    let now : beyond_first (waiting interval k (stretch ++ before)) ≡ beyond_first us =
    ap beyond_first (waits_since_scan interval k stretch ended here) in
    let step : late_releases interval k (scan_of k ∷ stretch ++ before)
    ≡ late_releases interval k (stretch ++ before) + beyond_first (waiting interval k (stretch ++ before)) =
    late_at_scan interval k (stretch ++ before) in
    let total : sum_by beyond_first (us ∷ releases_by_scan interval k ended) ≡ beyond_first us + beyond_firsts interval k ended =
    sum_by-cons beyond_first us (releases_by_scan interval k ended) in
    omega (arith, older, agrees, now, step, total)

pub late_is : (interval : ℤ) (k : ℕ) (calls since : List Call) (ended : List (List Call)) → AreStretches k calls since ended
    → late_releases interval k calls ≡ beyond_firsts interval k ended
late_is interval k calls since ended h =
    ap (late_releases interval k) h.whole ∙ late_kept interval k (with_scans k ended) since h.since_unserved
    ∙ late_by_scan interval k ended h.ended_unserved

pub overruns_are : (interval : ℤ) (k : ℕ) (calls since : List Call) (ended : List (List Call)) → AreStretches k calls since ended
    → overruns interval k calls ≡ capped (beyond_firsts interval k ended)
overruns_are interval k calls since ended h = ap capped (late_is interval k calls since ended h)

pub waiting_are : (interval : ℤ) (k : ℕ) (calls since : List Call) (ended : List (List Call)) → AreStretches k calls since ended
    → waiting interval k calls ≡ releases_in interval k (with_scans k ended) since
waiting_are interval k calls since ended h =
    ap (waiting interval k) h.whole ∙ waits_since_scan interval k since ended h.since_unserved

-- ---- all of them

pub releases_append : (interval : ℤ) (k : ℕ) (before us vs : List Call)
    → releases_in interval k before (us ++ vs) ≡ releases_in interval k before vs ++ releases_in interval k (vs ++ before) us
releases_append interval k before [] vs = sym (append-nil (releases_in interval k before vs))
releases_append interval k before (u ∷ us) vs =
    let old : List ℤ = releases_in interval k before vs in
    let new : List ℤ = releases_in interval k (vs ++ before) us in
    let joined : (us ++ vs) ++ before ≡ us ++ (vs ++ before) = append_assoc us vs before in
    let last : List ℤ = released interval k (last_instant (us ++ (vs ++ before))) u in
    let same : released interval k (last_instant ((us ++ vs) ++ before)) u ≡ last =
    ap (λ (x : List Call). released interval k (last_instant x) u) joined in
    let rest : releases_in interval k before (us ++ vs) ≡ old ++ new = releases_append interval k before us vs in
    let front : releases_in interval k before (us ++ vs) ++ released interval k (last_instant ((us ++ vs) ++ before)) u
    ≡ (old ++ new) ++ last =
    cc in
    front ∙ append_assoc old new last

releases_all : (interval : ℤ) (k : ℕ) (us vs : List Call)
    → releases_in interval k [] (us ++ vs) ≡ releases_in interval k [] vs ++ releases_in interval k vs us
releases_all interval k us vs =
    subst (λ (x : List Call). releases_in interval k [] (us ++ vs) ≡ releases_in interval k [] vs ++ releases_in interval k x us)
    (append-nil vs) (releases_append interval k [] us vs)

count_all : (interval : ℤ) (k : ℕ) (us vs : List Call)
    → length (releases_in interval k [] (us ++ vs)) ≡ length (releases_in interval k [] vs) + length (releases_in interval k vs us)
count_all interval k us vs =
    ap length (releases_all interval k us vs) ∙ length-append (releases_in interval k [] vs) (releases_in interval k vs us)

first_and_beyond : (us : List ℤ) → length us ≡ beyond_first us + cond (is_some_release us) 1 0
first_and_beyond [] = refl
first_and_beyond (u ∷ us) = omega arith

count_by_scan : (interval : ℤ) (k : ℕ) (ended : List (List Call))
    → length (releases_in interval k [] (with_scans k ended)) ≡ beyond_firsts interval k ended + serving_scans interval k ended
count_by_scan interval k [] = refl
count_by_scan interval k (stretch ∷ ended) =
    let before : List Call = with_scans k ended in
    let us : List ℤ = releases_in interval k before stretch in
    let by_scan : List (List ℤ) = releases_by_scan interval k ended in
    let older : length (releases_in interval k [] before) ≡ beyond_firsts interval k ended + serving_scans interval k ended =
    count_by_scan interval k ended in
    let step : length (releases_in interval k [] (scan_of k ∷ stretch ++ before)) ≡ length (releases_in interval k [] (stretch ++ before)) =
    ap length (append-nil (releases_in interval k [] (stretch ++ before))) in
    let all : length (releases_in interval k [] (stretch ++ before)) ≡ length (releases_in interval k [] before) + length us =
    count_all interval k stretch before in
    let parts : length us ≡ beyond_first us + cond (is_some_release us) 1 0 = first_and_beyond us in
    let beyond : sum_by beyond_first (us ∷ by_scan) ≡ beyond_first us + sum_by beyond_first by_scan = sum_by-cons beyond_first us by_scan in
    let first : sum_by (λ (x : List ℤ). cond (is_some_release x) 1 0) (us ∷ by_scan)
    ≡ cond (is_some_release us) 1 0 + sum_by (λ (x : List ℤ). cond (is_some_release x) 1 0) by_scan =
    sum_by-cons (λ (x : List ℤ). cond (is_some_release x) 1 0) us by_scan in
    omega (arith, older, step, all, parts, beyond, first)

pub each_counts : (interval : ℤ) (k : ℕ) (calls since : List Call) (ended : List (List Call)) → AreStretches k calls since ended
    → length (releases_in interval k [] calls)
    ≡ beyond_firsts interval k ended + serving_scans interval k ended + length (waiting interval k calls)
each_counts interval k calls since ended h =
    let before : List Call = with_scans k ended in
    let whole : length (releases_in interval k [] calls) ≡ length (releases_in interval k [] (since ++ before)) =
    ap (λ (x : List Call). length (releases_in interval k [] x)) h.whole in
    let all : length (releases_in interval k [] (since ++ before))
    ≡ length (releases_in interval k [] before) + length (releases_in interval k before since) =
    count_all interval k since before in
    let served : length (releases_in interval k [] before) ≡ beyond_firsts interval k ended + serving_scans interval k ended =
    count_by_scan interval k ended in
    let waits : length (waiting interval k calls) ≡ length (releases_in interval k before since) =
    ap length (waiting_are interval k calls since ended h) in
    omega (arith, whole, all, served, waits)

-- ---- by what they are

pub released_in : (interval : ℤ) (k : ℕ) (before stretch : List Call) (u : ℤ) → Contains (releases_in interval k before stretch) u
    → IsReleasedIn interval k before stretch u
released_in interval k before [] u h = none_contained u h
released_in interval k before (call ∷ stretch) u h =
    elim (Contains-append_cases (releases_in interval k before stretch) (released interval k (last_instant (stretch ++ before)) call) u h)
    as (λ _. IsReleasedIn interval k before (call ∷ stretch) u) [
      | inl old ↦
          let r = released_in interval k before stretch u old in
          record {
            later = call ∷ r.later;
            call = r.call;
            earlier = r.earlier;
            splits = ap (λ (x : List Call). call ∷ x) r.splits;
            releases = r.releases;
          }
      | inr new ↦ record { later = []; call = call; earlier = stretch; splits = refl; releases = new }
    ]

still_in : (interval : ℤ) (k : ℕ) (before later : List Call) (call : Call) (earlier : List Call) (u : ℤ)
    → Contains (released interval k (last_instant (earlier ++ before)) call) u
    → Contains (releases_in interval k before (later ++ call ∷ earlier)) u
still_in interval k before [] call earlier u h =
    Contains-append_right (releases_in interval k before earlier) (released interval k (last_instant (earlier ++ before)) call) u h
still_in interval k before (other ∷ later) call earlier u h =
    let rest : List Call = later ++ call ∷ earlier in
    Contains-append_left (releases_in interval k before rest) (released interval k (last_instant (rest ++ before)) other) u
    (still_in interval k before later call earlier u h)

pub in_released : (interval : ℤ) (k : ℕ) (before stretch : List Call) (u : ℤ) → IsReleasedIn interval k before stretch u
    → Contains (releases_in interval k before stretch) u
in_released interval k before stretch u h =
    subst (λ (x : List Call). Contains (releases_in interval k before x) u) (sym h.splits)
    (still_in interval k before h.later h.call h.earlier u h.releases)
