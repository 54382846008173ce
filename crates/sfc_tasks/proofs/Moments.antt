-- The stretches of small histories, and the releases of task 0 in them, worked out by hand. Instants in plain numbers.
use Rattle.std.proofs.Common.{◌≡◌, refl, ℕ, true, false, List, [], ◌∷◌, pos}
use Rattle.sfc_base.specs.declared.ids.TaskId.{TaskId}
use Rattle.sfc_tasks.specs.Calls.{Call, Elapsed, Rose, Served}
use Rattle.sfc_tasks.specs.Releases.{waiting, overruns}
use Rattle.sfc_tasks.specs.Stretches.{with_scans, releases_in, releases_by_scan, beyond_firsts, serving_scans, multiples_in}

abbrev task : ℕ → TaskId
task k = record { 0 = k }

-- time goes on to t while SINGLE of task 0 reads 0, and while it reads 1
abbrev on : ℕ → Call
on t = Elapsed (pos t) (false ∷ [])

abbrev under_single : ℕ → Call
under_single t = Elapsed (pos t) (true ∷ [])

-- its SINGLE rises, and it is scanned
abbrev rise : ℕ → Call
rise t = Rose (task 0) (pos t)

abbrev scan : Call
scan = Served (task 0)

-- ---- an interval of 10: a scan at 0, and one at 35

abbrev late : List (List Call)
late = (on 35 ∷ on 12 ∷ []) ∷ (on 0 ∷ []) ∷ []

-- the calls that are cut so
cut_late : with_scans 0 late ≡ scan ∷ on 35 ∷ on 12 ∷ scan ∷ on 0 ∷ []
cut_late = refl

-- 10, 20 and 30 came between the scans, and 0 before the first
releases_late : releases_by_scan (pos 10) 0 late ≡ (pos 10 ∷ pos 20 ∷ pos 30 ∷ []) ∷ (pos 0 ∷ []) ∷ []
releases_late = refl

-- so that 20 and 30 are overruns, and each of the two scans served a release
overruns_late : beyond_firsts (pos 10) 0 late ≡ 2
overruns_late = refl

scans_late : serving_scans (pos 10) 0 late ≡ 2
scans_late = refl

counted_late : overruns (pos 10) 0 (with_scans 0 late) ≡ 2
counted_late = refl

-- at 42 the release at 40 waits: of five releases two are overruns, two were served by a scan each, and one waits
waits_late : waiting (pos 10) 0 (on 42 ∷ with_scans 0 late) ≡ pos 40 ∷ []
waits_late = refl

all_late : releases_in (pos 10) 0 [] (on 42 ∷ with_scans 0 late) ≡ pos 0 ∷ pos 10 ∷ pos 20 ∷ pos 30 ∷ pos 40 ∷ []
all_late = refl

-- ---- no release: no interval, and no rise of its own

abbrev forced : List (List Call)
forced = (Rose (task 1) (pos 35) ∷ Served (task 1) ∷ on 35 ∷ []) ∷ []

releases_forced : releases_by_scan (pos 0) 0 forced ≡ [] ∷ []
releases_forced = refl

overruns_forced : beyond_firsts (pos 0) 0 forced ≡ 0
overruns_forced = refl

scans_forced : serving_scans (pos 0) 0 forced ≡ 0
scans_forced = refl

-- ---- a rise at 10, where there is a multiple too; 20 comes while SINGLE reads 1

abbrev risen : List (List Call)
risen = (under_single 25 ∷ rise 10 ∷ on 10 ∷ []) ∷ (on 0 ∷ []) ∷ []

releases_risen : releases_by_scan (pos 10) 0 risen ≡ (pos 10 ∷ pos 10 ∷ []) ∷ (pos 0 ∷ []) ∷ []
releases_risen = refl

-- the multiple is one of the two
multiples_risen : multiples_in (pos 10) 0 (scan ∷ on 0 ∷ []) (under_single 25 ∷ rise 10 ∷ on 10 ∷ []) ≡ pos 10 ∷ []
multiples_risen = refl

overruns_risen : beyond_firsts (pos 10) 0 risen ≡ 1
overruns_risen = refl

-- a rise behind the scan is of the next stretch, and waits
rise_behind : overruns (pos 10) 0 (rise 25 ∷ with_scans 0 risen) ≡ 1
rise_behind = refl

waits_behind : waiting (pos 10) 0 (rise 25 ∷ with_scans 0 risen) ≡ pos 25 ∷ []
waits_behind = refl
