-- Which releases wait, and which of them is the first.
use Rattle.std.proofs.Common.{◌≡◌, ◌⊎◌, inl, inr, ℕ, zero, suc, ◌==◌, ◌<◌, arith, List, [], ◌∷◌, ◌++◌, slice_index_or, ℤ, ◌≤ℤ◌, ◌<ℤ◌, Bool, true, false, cond, Contains, All, AllPairs, Some, refl, sym, ◌∙◌, ap, subst}
use Rattle.std.proofs.lemmas.List.Elements.{All-nil, All-cons, All-head, All-tail, All-append, All-weaker, Contains-append_left, Contains-append_right, Contains-append_cases}
use Rattle.std.proofs.lemmas.Int.{ints}
use Rattle.sfc_tasks.specs.Multiples.{multiples_between}
use Rattle.sfc_tasks.specs.Calls.{Call, Elapsed, Rose, Served, single_of, serves, last_instant}
use Rattle.sfc_tasks.specs.Releases.{released, waiting, first_of}
use Rattle.sfc_tasks.specs.Meaning.{IsMultipleBetween, IsReleasedSince, ComesAt, AreInOrder}
use Rattle.sfc_tasks.proofs.Rising.{each_between, multiples_rise}

pub bool_cases : (b : Bool) → (b ≡ true) ⊎ (b ≡ false)
bool_cases true = inl refl
bool_cases false = inr refl

pub none_contained : {P : Type 0} (u : ℤ) → Contains [] u → P
none_contained u h = absurd (let lt : h.0 < 0 = h.1 in omega arith)

pub waits_served : (interval : ℤ) (k : ℕ) (call : Call) (calls : List Call) → serves k call ≡ true → waiting interval k (call ∷ calls) ≡ []
waits_served interval k call calls e =
    ap (λ (b : Bool). cond b [] (waiting interval k calls ++ released interval k (last_instant calls) call)) e

pub waits_more : (interval : ℤ) (k : ℕ) (call : Call) (calls : List Call) → serves k call ≡ false
    → waiting interval k (call ∷ calls) ≡ waiting interval k calls ++ released interval k (last_instant calls) call
waits_more interval k call calls e =
    ap (λ (b : Bool). cond b [] (waiting interval k calls ++ released interval k (last_instant calls) call)) e

pub released_since : (interval : ℤ) (k : ℕ) (calls : List Call) (u : ℤ) → Contains (waiting interval k calls) u
    → IsReleasedSince interval k calls u
released_since interval k [] u h = none_contained u h
released_since interval k (call ∷ calls) u h =
    elim (bool_cases (serves k call)) as (λ _. IsReleasedSince interval k (call ∷ calls) u) [
      | inl e ↦ none_contained u (subst (λ (x : List ℤ). Contains x u) (waits_served interval k call calls e) h)
      | inr e ↦
          elim (Contains-append_cases (waiting interval k calls) (released interval k (last_instant calls) call) u
          (subst (λ (x : List ℤ). Contains x u) (waits_more interval k call calls e) h))
          as (λ _. IsReleasedSince interval k (call ∷ calls) u) [
            | inl old ↦
                let r = released_since interval k calls u old in
                record {
                  later = call ∷ r.later;
                  call = r.call;
                  earlier = r.earlier;
                  splits = ap (λ (x : List Call). call ∷ x) r.splits;
                  releases = r.releases;
                  unserved = All-cons (λ (other : Call). serves k other ≡ false) call r.later e r.unserved;
                }
            | inr new ↦
                record {
                  later = [];
                  call = call;
                  earlier = calls;
                  splits = refl;
                  releases = new;
                  unserved = All-nil (λ (other : Call). serves k other ≡ false);
                }
          ]
    ]

-- a call that releases does not serve
releases_unserved : (interval : ℤ) (k : ℕ) (last : ℤ) (call : Call) (u : ℤ) → Contains (released interval k last call) u
    → serves k call ≡ false
releases_unserved interval k last (Elapsed t singles) u h = refl
releases_unserved interval k last (Rose task t) u h = refl
releases_unserved interval k last (Served task) u h = none_contained u h

still_waits : (interval : ℤ) (k : ℕ) (later : List Call) (call : Call) (earlier : List Call) (u : ℤ)
    → Contains (released interval k (last_instant earlier) call) u → All (λ (other : Call). serves k other ≡ false) later
    → Contains (waiting interval k (later ++ call ∷ earlier)) u
still_waits interval k [] call earlier u h all =
    subst (λ (x : List ℤ). Contains x u)
    (sym (waits_more interval k call earlier (releases_unserved interval k (last_instant earlier) call u h)))
    (Contains-append_right (waiting interval k earlier) (released interval k (last_instant earlier) call) u h)
still_waits interval k (other ∷ later) call earlier u h all =
    let rest : List Call = later ++ call ∷ earlier in
    subst (λ (x : List ℤ). Contains x u)
    (sym (waits_more interval k other rest (All-head (λ (x : Call). serves k x ≡ false) other later all)))
    (Contains-append_left (waiting interval k rest) (released interval k (last_instant rest) other) u
    (still_waits interval k later call earlier u h (All-tail (λ (x : Call). serves k x ≡ false) other later all)))

pub since_waits : (interval : ℤ) (k : ℕ) (calls : List Call) (u : ℤ) → IsReleasedSince interval k calls u
    → Contains (waiting interval k calls) u
since_waits interval k calls u h =
    subst (λ (x : List Call). Contains (waiting interval k x) u) (sym h.splits)
    (still_waits interval k h.later h.call h.earlier u h.releases h.unserved)

-- ---- the first

-- what a call in order releases is not before the instant before it, and not after the one after it
released_within : (interval : ℤ) (k : ℕ) (calls : List Call) (call : Call) → ComesAt (last_instant calls) call
    → All (λ (u : ℤ). (last_instant calls ≤ℤ u) × (u ≤ℤ last_instant (call ∷ calls))) (released interval k (last_instant calls) call)
released_within interval k calls (Elapsed t singles) in_order =
    elim (single_of singles k)
    as (λ b. All (λ (u : ℤ). (last_instant calls ≤ℤ u) × (u ≤ℤ t)) (cond b [] (multiples_between interval (last_instant calls) t))) [
      | true ↦ All-nil (λ (u : ℤ). (last_instant calls ≤ℤ u) × (u ≤ℤ t))
      | false ↦
          All-weaker (IsMultipleBetween interval (last_instant calls) t) (λ (u : ℤ). (last_instant calls ≤ℤ u) × (u ≤ℤ t))
          (λ u h. (omega (arith, ints, h.after), h.until)) (multiples_between interval (last_instant calls) t)
          (each_between interval (last_instant calls) t)
    ]
released_within interval k calls (Rose task t) in_order =
    elim (task.0 == k) as (λ b. All (λ (u : ℤ). (last_instant calls ≤ℤ u) × (u ≤ℤ last_instant calls)) (cond b (t ∷ []) [])) [
      | true ↦
          All-cons (λ (u : ℤ). (last_instant calls ≤ℤ u) × (u ≤ℤ last_instant calls)) t []
          (omega (arith, ints, in_order), omega (arith, ints, in_order))
          (All-nil (λ (u : ℤ). (last_instant calls ≤ℤ u) × (u ≤ℤ last_instant calls)))
      | false ↦ All-nil (λ (u : ℤ). (last_instant calls ≤ℤ u) × (u ≤ℤ last_instant calls))
    ]
released_within interval k calls (Served task) in_order =
    All-nil (λ (u : ℤ). (last_instant calls ≤ℤ u) × (u ≤ℤ last_instant calls))

-- time does not go back
pub on_or_after : (call : Call) (calls : List Call) → ComesAt (last_instant calls) call → last_instant calls ≤ℤ last_instant (call ∷ calls)
on_or_after (Elapsed t singles) calls h = h
on_or_after (Rose task t) calls h = omega (arith, ints)
on_or_after (Served task) calls h = omega (arith, ints)

waits_until : (interval : ℤ) (k : ℕ) (calls : List Call) → AreInOrder calls
    → All (λ (u : ℤ). u ≤ℤ last_instant calls) (waiting interval k calls)
waits_until interval k [] h = All-nil (λ (u : ℤ). u ≤ℤ last_instant [])
waits_until interval k (call ∷ calls) h =
    let now : ℤ = last_instant (call ∷ calls) in
    let le : last_instant calls ≤ℤ now = on_or_after call calls h.0 in
    let old : All (λ (u : ℤ). u ≤ℤ now) (waiting interval k calls) =
    All-weaker (λ (u : ℤ). u ≤ℤ last_instant calls) (λ (u : ℤ). u ≤ℤ now) (λ u below. omega (arith, ints, below, le))
    (waiting interval k calls) (waits_until interval k calls h.1) in
    let new : All (λ (u : ℤ). u ≤ℤ now) (released interval k (last_instant calls) call) =
    All-weaker (λ (u : ℤ). (last_instant calls ≤ℤ u) × (u ≤ℤ now)) (λ (u : ℤ). u ≤ℤ now) (λ u both. both.1)
    (released interval k (last_instant calls) call) (released_within interval k calls call h.0) in
    let all : All (λ (u : ℤ). u ≤ℤ now) (waiting interval k calls ++ released interval k (last_instant calls) call) =
    All-append (λ (u : ℤ). u ≤ℤ now) (waiting interval k calls) (released interval k (last_instant calls) call) old new in
    elim (serves k call)
    as (λ b. All (λ (u : ℤ). u ≤ℤ now) (cond b [] (waiting interval k calls ++ released interval k (last_instant calls) call))) [
      | true ↦ All-nil (λ (u : ℤ). u ≤ℤ now)
      | false ↦ all
    ]

some_is : (x s : ℤ) → Some x ≡ Some s → x ≡ s
some_is x s e = cc

rising_first : (us : List ℤ) (s : ℤ) → AllPairs (λ u v. u <ℤ v) us → first_of us ≡ Some s → All (λ (u : ℤ). s ≤ℤ u) us
rising_first [] s rise e = absurd cc
rising_first (x ∷ us) s rise e = least where
  same : x ≡ s
  same = some_is x s e

  least : All (λ (u : ℤ). s ≤ℤ u) (x ∷ us)
  least zero d lt = omega (arith, ints, same)
  least (suc k) d lt =
      let next : x <ℤ slice_index_or us k d = rise 0 (suc k) d (omega arith) lt in
      omega (arith, ints, same, next)

released_first : (interval : ℤ) (k : ℕ) (last : ℤ) (call : Call) (s : ℤ) → first_of (released interval k last call) ≡ Some s
    → All (λ (u : ℤ). s ≤ℤ u) (released interval k last call)
released_first interval k last (Elapsed t singles) s e = by_single (single_of singles k) e where
  by_single : (b : Bool) → first_of (cond b [] (multiples_between interval last t)) ≡ Some s
      → All (λ (u : ℤ). s ≤ℤ u) (cond b [] (multiples_between interval last t))
  by_single true f = All-nil (λ (u : ℤ). s ≤ℤ u)
  by_single false f = rising_first (multiples_between interval last t) s (multiples_rise interval last t) f
released_first interval k last (Rose task t) s e = by_task (task.0 == k) e where
  by_task : (b : Bool) → first_of (cond b (t ∷ []) []) ≡ Some s → All (λ (u : ℤ). s ≤ℤ u) (cond b (t ∷ []) [])
  by_task true f =
      let same : t ≡ s = some_is t s f in
      All-cons (λ (u : ℤ). s ≤ℤ u) t [] (omega (arith, ints, same)) (All-nil (λ (u : ℤ). s ≤ℤ u))
  by_task false f = All-nil (λ (u : ℤ). s ≤ℤ u)
released_first interval k last (Served task) s e = All-nil (λ (u : ℤ). s ≤ℤ u)

-- the first of releases that come in two parts, the second not before the instant `last`
first_of_both : (us vs : List ℤ) (last s : ℤ) → All (λ (u : ℤ). u ≤ℤ last) us → All (λ (u : ℤ). last ≤ℤ u) vs
    → ((x : ℤ) → first_of us ≡ Some x → All (λ (u : ℤ). x ≤ℤ u) us) → (first_of vs ≡ Some s → All (λ (u : ℤ). s ≤ℤ u) vs)
    → first_of (us ++ vs) ≡ Some s → All (λ (u : ℤ). s ≤ℤ u) (us ++ vs)
first_of_both [] vs last s below above old new e = new e
first_of_both (x ∷ us) vs last s below above old new e =
    let same : x ≡ s = some_is x s e in
    let le : x ≤ℤ last = All-head (λ (u : ℤ). u ≤ℤ last) x us below in
    All-append (λ (u : ℤ). s ≤ℤ u) (x ∷ us) vs (old s e)
    (All-weaker (λ (u : ℤ). last ≤ℤ u) (λ (u : ℤ). s ≤ℤ u) (λ u over. omega (arith, ints, same, le, over)) vs above)

pub first_least : (interval : ℤ) (k : ℕ) (calls : List Call) (s : ℤ) → AreInOrder calls
    → first_of (waiting interval k calls) ≡ Some s → All (λ (u : ℤ). s ≤ℤ u) (waiting interval k calls)
first_least interval k [] s h e = All-nil (λ (u : ℤ). s ≤ℤ u)
first_least interval k (call ∷ calls) s h e =
    let last : ℤ = last_instant calls in
    let new : List ℤ = released interval k last call in
    elim (bool_cases (serves k call)) as (λ _. All (λ (u : ℤ). s ≤ℤ u) (waiting interval k (call ∷ calls))) [
      | inl w ↦
          subst (λ (x : List ℤ). All (λ (u : ℤ). s ≤ℤ u) x) (sym (waits_served interval k call calls w))
          (All-nil (λ (u : ℤ). s ≤ℤ u))
      | inr w ↦
          subst (λ (x : List ℤ). All (λ (u : ℤ). s ≤ℤ u) x) (sym (waits_more interval k call calls w))
          (first_of_both (waiting interval k calls) new last s (waits_until interval k calls h.1)
          (All-weaker (λ (u : ℤ). (last ≤ℤ u) × (u ≤ℤ last_instant (call ∷ calls))) (λ (u : ℤ). last ≤ℤ u)
          (λ u both. both.0) new (released_within interval k calls call h.0))
          (λ x f. first_least interval k calls x h.1 f) (λ f. released_first interval k last call s f)
          (ap first_of (sym (waits_more interval k call calls w)) ∙ e))
    ]
