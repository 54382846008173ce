-- The multiples that a stretch releases come apart from its rises, and each comes once.
use Rattle.std.proofs.Common.{◌≡◌, ℕ, zero, suc, ◌+◌, ◌==◌, arith, List, [], ◌∷◌, ◌++◌, length, length-append, Bool, true, false, not, cond, filter, count_by, ℤ, ◌≤ℤ◌, ◌<ℤ◌, All, AllPairs, Contains, refl, sym, ◌∙◌, ap, subst, inl, inr}
use Rattle.std.proofs.lemmas.Int.{ints}
use Rattle.std.proofs.lemmas.List.Elements.{All-nil, All-head, All-tail, All-append, All-weaker, All-contains, Contains-append_left, Contains-append_right, Contains-append_cases}
use Rattle.std.proofs.lemmas.List.Sums.{sum_by-cons}
use Rattle.sfc_base.specs.declared.ids.TaskId.{TaskId}
use Rattle.sfc_tasks.specs.Multiples.{multiples_between}
use Rattle.sfc_tasks.specs.Calls.{Call, Elapsed, Rose, Served, single_of, last_instant}
use Rattle.sfc_tasks.specs.Releases.{released}
use Rattle.sfc_tasks.specs.Meaning.{IsMultipleBetween, AreInOrder}
use Rattle.sfc_tasks.specs.Stretches.{releases_in, is_rise_of, multiples_in, IsMultipleIn}
use Rattle.sfc_tasks.proofs.Cutting.{count_of}
use Rattle.sfc_tasks.proofs.Rising.{each_between, between_contained, multiples_rise}
use Rattle.sfc_tasks.proofs.Waited.{bool_cases, none_contained, on_or_after}

-- the calls but the rises of task k
abbrev others : ℕ → List Call → List Call
others k stretch = filter (λ call. not (is_rise_of k call)) stretch

kept_by : (k : ℕ) (before : List Call) (task : TaskId) (t : ℤ) (stretch : List Call) (b : Bool)
    → last_instant (others k stretch ++ before) ≡ last_instant (stretch ++ before)
    → last_instant (cond (not b) (Rose task t ∷ others k stretch) (others k stretch) ++ before) ≡ last_instant (stretch ++ before)
kept_by k before task t stretch true e = e
kept_by k before task t stretch false e = e

last_kept : (k : ℕ) (before stretch : List Call) → last_instant (others k stretch ++ before) ≡ last_instant (stretch ++ before)
last_kept k before [] = refl
last_kept k before (Elapsed t singles ∷ stretch) = refl
last_kept k before (Served task ∷ stretch) = last_kept k before stretch
last_kept k before (Rose task t ∷ stretch) = kept_by k before task t stretch (task.0 == k) (last_kept k before stretch)

at_rise : (interval : ℤ) (k : ℕ) (before : List Call) (call : Call) (stretch : List Call) → is_rise_of k call ≡ true
    → multiples_in interval k before (call ∷ stretch) ≡ multiples_in interval k before stretch
at_rise interval k before call stretch e =
    ap (λ (b : Bool). releases_in interval k before (cond (not b) (call ∷ others k stretch) (others k stretch))) e

at_other : (interval : ℤ) (k : ℕ) (before : List Call) (call : Call) (stretch : List Call) → is_rise_of k call ≡ false
    → multiples_in interval k before (call ∷ stretch)
    ≡ multiples_in interval k before stretch ++ released interval k (last_instant (stretch ++ before)) call
at_other interval k before call stretch e =
    ap (λ (b : Bool). releases_in interval k before (cond (not b) (call ∷ others k stretch) (others k stretch))) e
    ∙ ap (λ (u : ℤ). multiples_in interval k before stretch ++ released interval k u call) (last_kept k before stretch)

-- ---- how many there are

one_release : (interval : ℤ) (k : ℕ) (last : ℤ) (call : Call) → is_rise_of k call ≡ true → length (released interval k last call) ≡ 1
one_release interval k last (Elapsed t singles) e = absurd cc
one_release interval k last (Rose task t) e = ap (λ (b : Bool). length (cond b (t ∷ []) [])) e
one_release interval k last (Served task) e = absurd cc

pub by_kind : (interval : ℤ) (k : ℕ) (before stretch : List Call)
    → length (releases_in interval k before stretch) ≡ length (multiples_in interval k before stretch) + count_by (is_rise_of k) stretch
by_kind interval k before [] = refl
by_kind interval k before (call ∷ stretch) =
    let all : List ℤ = releases_in interval k before stretch in
    let here : List ℤ = released interval k (last_instant (stretch ++ before)) call in
    let some : List ℤ = multiples_in interval k before stretch in
    let older : length all ≡ length some + count_by (is_rise_of k) stretch = by_kind interval k before stretch in
    let both : length (all ++ here) ≡ length all + length here = length-append all here in
    let count : count_by (is_rise_of k) (call ∷ stretch) ≡ cond (is_rise_of k call) 1 0 + count_by (is_rise_of k) stretch =
    sum_by-cons (λ (x : Call). cond (is_rise_of k x) 1 0) call stretch in
    elim (bool_cases (is_rise_of k call))
    as (λ _. length (all ++ here) ≡ length (multiples_in interval k before (call ∷ stretch)) + count_by (is_rise_of k) (call ∷ stretch)) [
      | inl e ↦
          let same : length (multiples_in interval k before (call ∷ stretch)) ≡ length some =
          ap length (at_rise interval k before call stretch e) in
          let one : length here ≡ 1 = one_release interval k (last_instant (stretch ++ before)) call e in
          let counts : ◌≡◌ {A = ℕ} (cond (is_rise_of k call) 1 0) 1 = ap count_of e in
          omega (arith, older, both, count, same, one, counts)
      | inr e ↦
          let more : length (multiples_in interval k before (call ∷ stretch)) ≡ length some + length here =
          ap length (at_other interval k before call stretch e) ∙ length-append some here in
          let counts : ◌≡◌ {A = ℕ} (cond (is_rise_of k call) 1 0) 0 = ap count_of e in
          omega (arith, older, both, count, more, counts)
    ]

-- ---- each once

-- strictly rising numbers, with another before them
rising_cons : (u : ℤ) (us : List ℤ) → All (λ (v : ℤ). u <ℤ v) us → AllPairs (λ x y. x <ℤ y) us → AllPairs (λ x y. x <ℤ y) (u ∷ us)
rising_cons u us below rise i zero d lt within = absurd (omega (arith, lt))
rising_cons u us below rise zero (suc j) d lt within = below j d (omega (arith, within))
rising_cons u us below rise (suc i) (suc j) d lt within = rise i j d (omega (arith, lt)) (omega (arith, within))

rising_rest : (u : ℤ) (us : List ℤ) → AllPairs (λ x y. x <ℤ y) (u ∷ us) → AllPairs (λ x y. x <ℤ y) us
rising_rest u us rise i j d lt within = rise (suc i) (suc j) d (omega (arith, lt)) (omega (arith, within))

rising_least : (u : ℤ) (us : List ℤ) → AllPairs (λ x y. x <ℤ y) (u ∷ us) → All (λ (v : ℤ). u <ℤ v) us
rising_least u us rise j d within = rise 0 (suc j) d (omega arith) (omega (arith, within))

rising_both : (last : ℤ) (us vs : List ℤ) → All (λ (u : ℤ). u ≤ℤ last) us → All (λ (v : ℤ). last <ℤ v) vs
    → AllPairs (λ x y. x <ℤ y) us → AllPairs (λ x y. x <ℤ y) vs → AllPairs (λ x y. x <ℤ y) (us ++ vs)
rising_both last [] vs below above first second = second
rising_both last (u ∷ us) vs below above first second =
    let le : u ≤ℤ last = All-head (λ (x : ℤ). x ≤ℤ last) u us below in
    rising_cons u (us ++ vs)
    (All-append (λ (v : ℤ). u <ℤ v) us vs (rising_least u us first)
    (All-weaker (λ (v : ℤ). last <ℤ v) (λ (v : ℤ). u <ℤ v) (λ v over. omega (arith, ints, le, over)) vs above))
    (rising_both last us vs (All-tail (λ (x : ℤ). x ≤ℤ last) u us below) above (rising_rest u us first) second)

no_pairs : AllPairs (λ (x y : ℤ). x <ℤ y) []
no_pairs i j d lt within = absurd (omega (arith, within))

-- what comes between two instants, rising
record ComesBetween (last t : ℤ) (us : List ℤ) : Type 0 where
  within : All (λ (u : ℤ). (last <ℤ u) × (u ≤ℤ t)) us
  rise : AllPairs (λ x y. x <ℤ y) us

nothing_comes : (last t : ℤ) → ComesBetween last t []
nothing_comes last t = record { within = All-nil (λ (u : ℤ). (last <ℤ u) × (u ≤ℤ t)); rise = no_pairs }

other_comes : (interval : ℤ) (k : ℕ) (calls : List Call) (call : Call) → is_rise_of k call ≡ false
    → ComesBetween (last_instant calls) (last_instant (call ∷ calls)) (released interval k (last_instant calls) call)
other_comes interval k calls (Elapsed t singles) e = by_single (single_of singles k) where
  by_single : (b : Bool) → ComesBetween (last_instant calls) t (cond b [] (multiples_between interval (last_instant calls) t))
  by_single true = nothing_comes (last_instant calls) t
  by_single false = record {
    within =
        All-weaker (IsMultipleBetween interval (last_instant calls) t) (λ (u : ℤ). (last_instant calls <ℤ u) × (u ≤ℤ t))
        (λ u h. (h.after, h.until)) (multiples_between interval (last_instant calls) t) (each_between interval (last_instant calls) t);
    rise = multiples_rise interval (last_instant calls) t;
  }
other_comes interval k calls (Rose task t) e =
    subst (λ (b : Bool). ComesBetween (last_instant calls) (last_instant calls) (cond b (t ∷ []) [])) (sym e)
    (nothing_comes (last_instant calls) (last_instant calls))
other_comes interval k calls (Served task) e = nothing_comes (last_instant calls) (last_instant calls)

-- rising, and none after the instant t
record ComesUntil (t : ℤ) (us : List ℤ) : Type 0 where
  until : All (λ (u : ℤ). u ≤ℤ t) us
  rise : AllPairs (λ x y. x <ℤ y) us

still_until : (last t : ℤ) (us : List ℤ) → last ≤ℤ t → ComesUntil last us → ComesUntil t us
still_until last t us le h = record {
  until = All-weaker (λ (u : ℤ). u ≤ℤ last) (λ (u : ℤ). u ≤ℤ t) (λ u below. omega (arith, ints, le, below)) us h.until;
  rise = h.rise;
}

more_until : (last t : ℤ) (us vs : List ℤ) → last ≤ℤ t → ComesUntil last us → ComesBetween last t vs → ComesUntil t (us ++ vs)
more_until last t us vs le old new = record {
  until =
      All-append (λ (u : ℤ). u ≤ℤ t) us vs (still_until last t us le old).until
      (All-weaker (λ (u : ℤ). (last <ℤ u) × (u ≤ℤ t)) (λ (u : ℤ). u ≤ℤ t) (λ u both. both.1) vs new.within);
  rise =
      rising_both last us vs old.until
      (All-weaker (λ (u : ℤ). (last <ℤ u) × (u ≤ℤ t)) (λ (u : ℤ). last <ℤ u) (λ u both. both.0) vs new.within) old.rise new.rise;
}

multiples_come : (interval : ℤ) (k : ℕ) (before stretch : List Call) → AreInOrder (stretch ++ before)
    → ComesUntil (last_instant (stretch ++ before)) (multiples_in interval k before stretch)
multiples_come interval k before [] h = record { until = All-nil (λ (u : ℤ). u ≤ℤ last_instant before); rise = no_pairs }
multiples_come interval k before (call ∷ stretch) h =
    let last : ℤ = last_instant (stretch ++ before) in
    let now : ℤ = last_instant (call ∷ (stretch ++ before)) in
    let le : last ≤ℤ now = on_or_after call (stretch ++ before) h.0 in
    let old : ComesUntil last (multiples_in interval k before stretch) = multiples_come interval k before stretch h.1 in
    elim (bool_cases (is_rise_of k call)) as (λ _. ComesUntil now (multiples_in interval k before (call ∷ stretch))) [
      | inl e ↦
          subst (λ (x : List ℤ). ComesUntil now x) (sym (at_rise interval k before call stretch e))
          (still_until last now (multiples_in interval k before stretch) le old)
      | inr e ↦
          subst (λ (x : List ℤ). ComesUntil now x) (sym (at_other interval k before call stretch e))
          (more_until last now (multiples_in interval k before stretch) (released interval k last call) le old
          (other_comes interval k (stretch ++ before) call e))
    ]

pub each_once : (interval : ℤ) (k : ℕ) (before stretch : List Call) → AreInOrder (stretch ++ before)
    → AllPairs (λ x y. x <ℤ y) (multiples_in interval k before stretch)
each_once interval k before stretch h = (multiples_come interval k before stretch h).rise

-- ---- by what they are

later_one : (interval : ℤ) (k : ℕ) (before : List Call) (call : Call) (stretch : List Call) (u : ℤ)
    → IsMultipleIn interval k before stretch u
    → IsMultipleIn interval k before (call ∷ stretch) u
later_one interval k before call stretch u r = record {
  later = call ∷ r.later;
  t = r.t;
  singles = r.singles;
  earlier = r.earlier;
  splits = ap (λ (x : List Call). call ∷ x) r.splits;
  single = r.single;
  multiple = r.multiple;
}

one_between : (interval last t u : ℤ) → Contains (multiples_between interval last t) u → IsMultipleBetween interval last t u
one_between interval last t u h =
    All-contains (IsMultipleBetween interval last t) (multiples_between interval last t) u (each_between interval last t) h

latest_one : (interval : ℤ) (k : ℕ) (before : List Call) (call : Call) (stretch : List Call) (u : ℤ) → is_rise_of k call ≡ false
    → Contains (released interval k (last_instant (stretch ++ before)) call) u → IsMultipleIn interval k before (call ∷ stretch) u
latest_one interval k before (Elapsed t singles) stretch u e h = by_single (single_of singles k) refl h where
  by_single : (b : Bool) → single_of singles k ≡ b → Contains (cond b [] (multiples_between interval (last_instant (stretch ++ before)) t)) u
      → IsMultipleIn interval k before (Elapsed t singles ∷ stretch) u
  by_single true s c = none_contained u c
  by_single false s c = record {
    later = [];
    t = t;
    singles = singles;
    earlier = stretch;
    splits = refl;
    single = s;
    multiple = one_between interval (last_instant (stretch ++ before)) t u c;
  }
latest_one interval k before (Rose task t) stretch u e h = none_contained u (subst (λ (b : Bool). Contains (cond b (t ∷ []) []) u) e h)
latest_one interval k before (Served task) stretch u e h = none_contained u h

pub multiple_in : (interval : ℤ) (k : ℕ) (before stretch : List Call) (u : ℤ) → Contains (multiples_in interval k before stretch) u
    → IsMultipleIn interval k before stretch u
multiple_in interval k before [] u h = none_contained u h
multiple_in interval k before (call ∷ stretch) u h =
    let last : ℤ = last_instant (stretch ++ before) in
    elim (bool_cases (is_rise_of k call)) as (λ _. IsMultipleIn interval k before (call ∷ stretch) u) [
      | inl e ↦
          later_one interval k before call stretch u
          (multiple_in interval k before stretch u (subst (λ (x : List ℤ). Contains x u) (at_rise interval k before call stretch e) h))
      | inr e ↦
          elim (Contains-append_cases (multiples_in interval k before stretch) (released interval k last call) u
          (subst (λ (x : List ℤ). Contains x u) (at_other interval k before call stretch e) h))
          as (λ _. IsMultipleIn interval k before (call ∷ stretch) u) [
            | inl old ↦ later_one interval k before call stretch u (multiple_in interval k before stretch u old)
            | inr new ↦ latest_one interval k before call stretch u e new
          ]
    ]

kept_on : (interval : ℤ) (k : ℕ) (before : List Call) (call : Call) (stretch : List Call) (u : ℤ)
    → Contains (multiples_in interval k before stretch) u → Contains (multiples_in interval k before (call ∷ stretch)) u
kept_on interval k before call stretch u h =
    elim (bool_cases (is_rise_of k call)) as (λ _. Contains (multiples_in interval k before (call ∷ stretch)) u) [
      | inl e ↦ subst (λ (x : List ℤ). Contains x u) (sym (at_rise interval k before call stretch e)) h
      | inr e ↦
          subst (λ (x : List ℤ). Contains x u) (sym (at_other interval k before call stretch e))
          (Contains-append_left (multiples_in interval k before stretch) (released interval k (last_instant (stretch ++ before)) call) u h)
    ]

elapsed_in : (interval : ℤ) (k : ℕ) (before later : List Call) (t : ℤ) (singles : List Bool) (earlier : List Call) (u : ℤ)
    → single_of singles k ≡ false → IsMultipleBetween interval (last_instant (earlier ++ before)) t u
    → Contains (multiples_in interval k before (later ++ Elapsed t singles ∷ earlier)) u
elapsed_in interval k before [] t singles earlier u e h =
    let last : ℤ = last_instant (earlier ++ before) in
    subst (λ (x : List ℤ). Contains x u) (sym (at_other interval k before (Elapsed t singles) earlier refl))
    (Contains-append_right (multiples_in interval k before earlier) (released interval k last (Elapsed t singles)) u
    (subst (λ (b : Bool). Contains (cond b [] (multiples_between interval last t)) u) (sym e) (between_contained interval last t u h)))
elapsed_in interval k before (call ∷ later) t singles earlier u e h =
    kept_on interval k before call (later ++ Elapsed t singles ∷ earlier) u (elapsed_in interval k before later t singles earlier u e h)

pub in_multiples : (interval : ℤ) (k : ℕ) (before stretch : List Call) (u : ℤ) → IsMultipleIn interval k before stretch u
    → Contains (multiples_in interval k before stretch) u
in_multiples interval k before stretch u h =
    subst (λ (x : List Call). Contains (multiples_in interval k before x) u) (sym h.splits)
    (elapsed_in interval k before h.later h.t h.singles h.earlier u h.single h.multiple)
