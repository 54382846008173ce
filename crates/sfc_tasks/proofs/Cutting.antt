-- The calls of a task, cut at its scans, in one way.
use Rattle.std.proofs.Common.{◌≡◌, ◌⊎◌, inl, inr, ℕ, ◌+◌, ◌==◌, arith, List, [], ◌∷◌, ◌++◌, length, count_by, Bool, true, false, cond, All, refl, sym, ◌∙◌, ap, subst}
use Rattle.std.proofs.lemmas.Bool.{eq-eqb}
use Rattle.std.proofs.lemmas.Bool.Decides.{eqb_tells}
use Rattle.std.proofs.lemmas.List.Elements.{All-nil, All-cons, All-head, All-tail}
use Rattle.std.proofs.lemmas.List.Sums.{sum_by-cons}
use Rattle.sfc_tasks.specs.Calls.{Call, Elapsed, Rose, Served, serves}
use Rattle.sfc_tasks.specs.Stretches.{IsUnserved, with_scans, AreStretches}

-- the call by which task k is served
abbrev pub scan_of : ℕ → Call
scan_of k = Served (record { 0 = k })

-- 1 for what counts
abbrev pub count_of : Bool → ℕ
count_of b = cond b 1 0

pub serves_itself : (k : ℕ) → serves k (scan_of k) ≡ true
serves_itself k = eq-eqb k k refl

pub tells : (k : ℕ) (call : Call) → (call ≡ scan_of k) ⊎ (serves k call ≡ false)
tells k (Elapsed t singles) = inr refl
tells k (Rose task t) = inr refl
tells k (Served task) = elim (eqb_tells task.0 k) as (λ _. (Served task ≡ scan_of k) ⊎ (task.0 == k ≡ false)) [
  | inl w ↦ inl (ap (λ (x : ℕ). Served (record { 0 = x })) w.1)
  | inr w ↦ inr w.0
]

-- ---- there are stretches

pub record Cut (k : ℕ) (calls : List Call) : Type 0 where
  pub since : List Call
  pub ended : List (List Call)
  pub are : AreStretches k calls since ended

begun : (k : ℕ) (calls : List Call) → Cut k calls → Cut k (scan_of k ∷ calls)
begun k calls c = record {
  since = [];
  ended = c.since ∷ c.ended;
  are = record {
    whole = ap (λ (x : List Call). scan_of k ∷ x) c.are.whole;
    since_unserved = All-nil (λ (call : Call). serves k call ≡ false);
    ended_unserved = All-cons (IsUnserved k) c.since c.ended c.are.since_unserved c.are.ended_unserved;
  };
}

gone_on : (k : ℕ) (call : Call) (calls : List Call) → serves k call ≡ false → Cut k calls → Cut k (call ∷ calls)
gone_on k call calls e c = record {
  since = call ∷ c.since;
  ended = c.ended;
  are = record {
    whole = ap (λ (x : List Call). call ∷ x) c.are.whole;
    since_unserved = All-cons (λ (x : Call). serves k x ≡ false) call c.since e c.are.since_unserved;
    ended_unserved = c.are.ended_unserved;
  };
}

pub cut : (k : ℕ) (calls : List Call) → Cut k calls
cut k [] = record {
  since = [];
  ended = [];
  are = record {
    whole = refl;
    since_unserved = All-nil (λ (call : Call). serves k call ≡ false);
    ended_unserved = All-nil (IsUnserved k);
  };
}
cut k (call ∷ calls) = elim (tells k call) as (λ _. Cut k (call ∷ calls)) [
  | inl e ↦ subst (λ (x : Call). Cut k (x ∷ calls)) (sym e) (begun k calls (cut k calls))
  | inr e ↦ gone_on k call calls e (cut k calls)
]

-- ---- in one way

-- the first of the calls, if there is one, serves task k
abbrev first_serves : ℕ → List Call → Bool
first_serves k [] = true
first_serves k (call ∷ calls) = serves k call

scans_first : (k : ℕ) (ended : List (List Call)) → first_serves k (with_scans k ended) ≡ true
scans_first k [] = refl
scans_first k (stretch ∷ ended) = serves_itself k

same_front : (k : ℕ) (us vs xs ys : List Call) → IsUnserved k us → IsUnserved k vs → first_serves k xs ≡ true → first_serves k ys ≡ true
    → us ++ xs ≡ vs ++ ys → (us ≡ vs) × (xs ≡ ys)
same_front k [] [] xs ys p q f g e = (refl, e)
same_front k [] (v ∷ vs) xs ys p q f g e =
    let no : serves k v ≡ false = All-head (λ (x : Call). serves k x ≡ false) v vs q in
    let yes : serves k v ≡ true = sym (ap (first_serves k) e) ∙ f in
    absurd cc
same_front k (u ∷ us) [] xs ys p q f g e =
    let no : serves k u ≡ false = All-head (λ (x : Call). serves k x ≡ false) u us p in
    let yes : serves k u ≡ true = ap (first_serves k) e ∙ g in
    absurd cc
same_front k (u ∷ us) (v ∷ vs) xs ys p q f g e =
    let head : u ≡ v = cc in
    let rest : us ++ xs ≡ vs ++ ys = cc in
    let both = same_front k us vs xs ys (All-tail (λ (x : Call). serves k x ≡ false) u us p)
    (All-tail (λ (x : Call). serves k x ≡ false) v vs q) f g rest in
    let tail : us ≡ vs = both.0 in
    (cc, both.1)

same_scans : (k : ℕ) (us vs : List (List Call)) → All (IsUnserved k) us → All (IsUnserved k) vs
    → with_scans k us ≡ with_scans k vs → us ≡ vs
same_scans k [] [] p q e = refl
same_scans k [] (v ∷ vs) p q e = absurd cc
same_scans k (u ∷ us) [] p q e = absurd cc
same_scans k (u ∷ us) (v ∷ vs) p q e =
    let rest : u ++ with_scans k us ≡ v ++ with_scans k vs = cc in
    let both = same_front k u v (with_scans k us) (with_scans k vs) (All-head (IsUnserved k) u us p) (All-head (IsUnserved k) v vs q)
    (scans_first k us) (scans_first k vs) rest in
    let head : u ≡ v = both.0 in
    let tail : us ≡ vs = same_scans k us vs (All-tail (IsUnserved k) u us p) (All-tail (IsUnserved k) v vs q) both.1 in
    cc

pub one_cut : (k : ℕ) (calls since other : List Call) (ended others : List (List Call)) → AreStretches k calls since ended
    → AreStretches k calls other others → (since ≡ other) × (ended ≡ others)
one_cut k calls since other ended others a b =
    let both = same_front k since other (with_scans k ended) (with_scans k others) a.since_unserved b.since_unserved
    (scans_first k ended) (scans_first k others) (sym a.whole ∙ b.whole) in
    (both.0, same_scans k ended others a.ended_unserved b.ended_unserved both.1)

-- ---- as many as scans

no_scan : (k : ℕ) (us calls : List Call) → IsUnserved k us → count_by (serves k) (us ++ calls) ≡ count_by (serves k) calls
no_scan k [] calls unserved = refl
no_scan k (u ∷ us) calls unserved =
    let first : count_by (serves k) (u ∷ us ++ calls) ≡ count_of (serves k u) + count_by (serves k) (us ++ calls) =
    sum_by-cons (λ (x : Call). cond (serves k x) 1 0) u (us ++ calls) in
    let none : count_of (serves k u) ≡ 0 = ap count_of (All-head (λ (x : Call). serves k x ≡ false) u us unserved) in
    let rest : count_by (serves k) (us ++ calls) ≡ count_by (serves k) calls =
    no_scan k us calls (All-tail (λ (x : Call). serves k x ≡ false) u us unserved) in
    omega (arith, first, none, rest)

scans_among : (k : ℕ) (ended : List (List Call)) → All (IsUnserved k) ended → count_by (serves k) (with_scans k ended) ≡ length ended
scans_among k [] unserved = refl
scans_among k (stretch ∷ ended) unserved =
    let calls : List Call = stretch ++ with_scans k ended in
    let first : count_by (serves k) (scan_of k ∷ calls) ≡ count_of (serves k (scan_of k)) + count_by (serves k) calls =
    sum_by-cons (λ (x : Call). cond (serves k x) 1 0) (scan_of k) calls in
    let one : count_of (serves k (scan_of k)) ≡ 1 = ap count_of (serves_itself k) in
    let none : count_by (serves k) calls ≡ count_by (serves k) (with_scans k ended) =
    no_scan k stretch (with_scans k ended) (All-head (IsUnserved k) stretch ended unserved) in
    let rest : count_by (serves k) (with_scans k ended) ≡ length ended =
    scans_among k ended (All-tail (IsUnserved k) stretch ended unserved) in
    omega (arith, first, one, none, rest)

pub one_each : (k : ℕ) (calls since : List Call) (ended : List (List Call)) → AreStretches k calls since ended
    → length ended ≡ count_by (serves k) calls
one_each k calls since ended h =
    sym
    (ap (count_by (serves k)) h.whole ∙ no_scan k since (with_scans k ended) h.since_unserved ∙ scans_among k ended h.ended_unserved)
