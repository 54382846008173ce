-- The pass in rank order gives the one set of cleared transitions.
use Rattle.std.proofs.Common.{◌≡◌, ◌↔◌, ℕ, zero, suc, ◌<◌, ◌||◌, ◌&&◌, inl, inr, not, Bool}
use Rattle.std.proofs.Common.{true, false, cond, List, [], ◌∷◌, length, refl, sym, ◌∙◌, ap, arith}
use Rattle.std.specs.Prelude.{All}
use Rattle.std.specs.List.{list_any}
use Rattle.std.proofs.lemmas.List.Elements.{All-head, All-tail}
use Rattle.sfc_base.specs.declared.references.StepId.{StepId}
use Rattle.sfc_flags.specs.Flags.{flag}
use Rattle.sfc_evolve.specs.Private.Keeping.{AllBelow}
use Rattle.sfc_evolve.specs.Marks.{has, marked}
use Rattle.sfc_evolve.specs.Clearing.{is_enabled, is_cleared, shares}
use Rattle.sfc_evolve.proofs.Flagged.{flag-marked, length-marked}
use Rattle.sfc_evolve.proofs.Looks.{bool_cases}

-- a transition in rank order
pub record Entry : Type 0 where
  pub preceding : List StepId
  pub condition : Bool

abbrev pub before : List Entry → ℕ → List StepId
before [] i = []
before (tr ∷ trs) zero = tr.preceding
before (tr ∷ trs) (suc i) = before trs i

abbrev pub condition_at : List Entry → ℕ → Bool
condition_at [] i = false
condition_at (tr ∷ trs) zero = tr.condition
condition_at (tr ∷ trs) (suc i) = condition_at trs i

abbrev pub is_used : List Bool → StepId → Bool
is_used used step = flag used step.0

abbrev pub clears : (ℕ → Bool) → Entry → List Bool → Bool
clears x tr used = is_cleared x tr.condition tr.preceding used

abbrev pub cleared_from : (ℕ → Bool) → List Entry → List Bool → List Bool
cleared_from x [] used = []
cleared_from x (tr ∷ trs) used = clears x tr used ∷ cleared_from x trs (cond (clears x tr used) (marked tr.preceding used) used)

-- the steps before each of these transitions are among n
abbrev pub AreWithin : ℕ → List Entry → Type 0
AreWithin n trs = All (λ (tr : Entry). AllBelow n tr.preceding) trs

-- the same, where the preceding steps of transitions ranked before are used already
pub record Reason (x : ℕ → Bool) (trs : List Entry) (used set : List Bool) (i : ℕ) : Type 0 where
  pub enabled : is_enabled x (before trs i) ≡ true
  pub condition : condition_at trs i ≡ true
  pub unused : list_any (is_used used) (before trs i) ≡ false
  pub first : (u : ℕ) → u < i → flag set u ≡ true → shares (before trs u) (before trs i) ≡ false

pub record Chosen (x : ℕ → Bool) (trs : List Entry) (used set : List Bool) : Type 0 where
  pub sized : length set ≡ length trs
  pub each : (i : ℕ) → i < length trs → (flag set i ≡ true) ↔ Reason x trs used set i

or_parts : (a b : Bool) → (a || b) ≡ false → (a ≡ false) × (b ≡ false)
or_parts true b e = absurd (cc)
or_parts false b e = (refl, e)

and_parts : (a b : Bool) → (a && b) ≡ true → (a ≡ true) × (b ≡ true)
and_parts true b e = (refl, e)
and_parts false b e = absurd (cc)

not_true : (a : Bool) → not a ≡ true → a ≡ false
not_true true e = absurd (let bad : false ≡ true = e in cc)
not_true false e = refl

four : (a b c d : Bool) → ((a || b) || (c || d)) ≡ ((a || c) || (b || d))
four true b c d = refl
four false true true d = refl
four false true false d = refl
four false false c d = refl

any_marked : (places : List StepId) (used : List Bool) (q : List StepId) → AllBelow (length used) places
    → list_any (is_used (marked places used)) q ≡ (shares places q || list_any (is_used used) q)
any_marked places used [] below = refl
any_marked places used (s ∷ q) below =
    let here : flag (marked places used) s.0 ≡ (has places s.0 || flag used s.0) = flag-marked (length used) places used s.0 refl below in
    let rest : list_any (is_used (marked places used)) q ≡ (shares places q || list_any (is_used used) q) =
    any_marked places used q below in
    rw (here, rest) (four (has places s.0) (flag used s.0) (shares places q) (list_any (is_used used) q))

cleared_when : (x : ℕ → Bool) (tr : Entry) (used : List Bool) → is_enabled x tr.preceding ≡ true → tr.condition ≡ true
    → list_any (is_used used) tr.preceding ≡ false → clears x tr used ≡ true
cleared_when x tr used a b d = rw (a, b, d) refl

cleared_parts : (x : ℕ → Bool) (tr : Entry) (used : List Bool) → clears x tr used ≡ true
    → (is_enabled x tr.preceding ≡ true) × (tr.condition ≡ true) × (list_any (is_used used) tr.preceding ≡ false)
cleared_parts x tr used e =
    let p = and_parts _ _ e in let q = and_parts _ _ p.0 in (q.0, q.1, not_true _ p.1)

-- the head's part, and back
head_is : (x : ℕ → Bool) (tr : Entry) (trs : List Entry) (used : List Bool) (b : Bool) (bs : List Bool)
    → Chosen x (tr ∷ trs) used (b ∷ bs) → b ≡ clears x tr used
head_is x tr trs used true bs k =
    let r = (k.each 0 (omega arith)).0 refl in sym (cleared_when x tr used r.enabled r.condition r.unused)
head_is x tr trs used false bs k = elim (bool_cases (clears x tr used)) [
  | inl e ↦ (let (p, q, n) = cleared_parts x tr used e in
      let bad : false ≡ true =
      (k.each 0 (omega arith)).1 record { enabled = p; condition = q; unused = n; first = λ u lt. absurd (omega arith) } in
      absurd (cc))
  | inr e ↦ sym e
]

module _ (x : ℕ → Bool) (tr : Entry) (trs : List Entry) (used bs : List Bool) (i : ℕ) where
  down_false : Reason x (tr ∷ trs) used (false ∷ bs) (suc i) → Reason x trs used bs i
  down_false r = record {
    enabled = r.enabled;
    condition = r.condition;
    unused = r.unused;
    first =
        λ u lt on. r.first (suc u) (omega arith) on;
  }

  first_false : Reason x trs used bs i → (u : ℕ) → u < suc i → flag (false ∷ bs) u ≡ true
      → shares (before (tr ∷ trs) u) (before trs i) ≡ false
  first_false r zero lt on = absurd (let bad : false ≡ true = on in cc)
  first_false r (suc u) lt on = r.first u (omega arith) on

  up_false : Reason x trs used bs i → Reason x (tr ∷ trs) used (false ∷ bs) (suc i)
  up_false r = record { enabled = r.enabled; condition = r.condition; unused = r.unused; first = first_false r }

  down_true : AllBelow (length used) tr.preceding → Reason x (tr ∷ trs) used (true ∷ bs) (suc i)
      → Reason x trs (marked tr.preceding used) bs i
  down_true below r = record {
    enabled = r.enabled;
    condition = r.condition;
    unused = (let apart : shares tr.preceding (before trs i) ≡ false = r.first 0 (omega arith) refl in
        let clear : list_any (is_used used) (before trs i) ≡ false = r.unused in
        any_marked tr.preceding used (before trs i) below ∙ rw (apart, clear) refl);
    first = λ u lt on. r.first (suc u) (omega arith) on;
  }

  first_true : shares tr.preceding (before trs i) ≡ false → Reason x trs (marked tr.preceding used) bs i → (u : ℕ) → u < suc i
      → flag (true ∷ bs) u ≡ true → shares (before (tr ∷ trs) u) (before trs i) ≡ false
  first_true apart r zero lt on = apart
  first_true apart r (suc u) lt on = r.first u (omega arith) on

  up_true : AllBelow (length used) tr.preceding → Reason x trs (marked tr.preceding used) bs i
      → Reason x (tr ∷ trs) used (true ∷ bs) (suc i)
  up_true below r =
      let p : (shares tr.preceding (before trs i) ≡ false) × (list_any (is_used used) (before trs i) ≡ false) =
      or_parts _ _ (sym (any_marked tr.preceding used (before trs i) below) ∙ r.unused) in
      record { enabled = r.enabled; condition = r.condition; unused = p.1; first = first_true p.0 r }

tail_is : (x : ℕ → Bool) (tr : Entry) (trs : List Entry) (used : List Bool) (b : Bool) (bs : List Bool)
    → AllBelow (length used) tr.preceding → Chosen x (tr ∷ trs) used (b ∷ bs) → Chosen x trs (cond b (marked tr.preceding used) used) bs
tail_is x tr trs used true bs below k = record {
  sized = (let e : length (true ∷ bs) ≡ length (tr ∷ trs) = k.sized in omega arith);
  each = λ i lt. (
    (λ on. down_true x tr trs used bs i below ((k.each (suc i) (omega arith)).0 on)),
    λ r. (k.each (suc i) (omega arith)).1
        (up_true x tr trs used bs i below r),
  );
}
tail_is x tr trs used false bs below k = record {
  sized = (let e : length (false ∷ bs) ≡ length (tr ∷ trs) = k.sized in omega arith);
  each = λ i lt. (
    (λ on. down_false x tr trs used bs i ((k.each (suc i) (omega arith)).0 on)),
    λ r. (k.each (suc i) (omega arith)).1
        (up_false x tr trs used bs i r),
  );
}

joined : (x : ℕ → Bool) (tr : Entry) (trs : List Entry) (used : List Bool) (b : Bool) (bs : List Bool)
    → AllBelow (length used) tr.preceding → b ≡ clears x tr used → Chosen x trs (cond b (marked tr.preceding used) used) bs → (i : ℕ)
    → i < suc (length trs) → (flag (b ∷ bs) i ≡ true) ↔ Reason x (tr ∷ trs) used (b ∷ bs) i
joined x tr trs used b bs below e k zero lt = (
  (λ on. let (p, q, n) = cleared_parts x tr used (sym e ∙ on) in
      record { enabled = p; condition = q; unused = n; first = λ u lt. absurd (omega arith) }),
  λ r. e ∙ cleared_when x tr used r.enabled r.condition r.unused,
)
joined x tr trs used true bs below e k (suc i) lt = (
  (λ on. up_true x tr trs used bs i below ((k.each i (omega arith)).0 on)),
  λ r. (k.each i (omega arith)).1
      (down_true x tr trs used bs i below r),
)
joined x tr trs used false bs below e k (suc i) lt =
    ((λ on. up_false x tr trs used bs i ((k.each i (omega arith)).0 on)), λ r. (k.each i (omega arith)).1 (down_false x tr trs used bs i r))

within_next : (n : ℕ) (tr : Entry) (trs : List Entry) (used : List Bool) (b : Bool) → length used ≡ n
    → length (cond b (marked tr.preceding used) used) ≡ n
within_next n tr trs used true e = length-marked tr.preceding used ∙ e
within_next n tr trs used false e = e

-- the pass gives a chosen set
pub chosen : (n : ℕ) (x : ℕ → Bool) (trs : List Entry) (used : List Bool) → AreWithin n trs → length used ≡ n
    → Chosen x trs used (cleared_from x trs used)
chosen n x [] used within sized = record { sized = refl; each = λ i lt. absurd (omega arith) }
chosen n x (tr ∷ trs) used within sized =
    let rest : AreWithin n trs = All-tail (λ (tr : Entry). AllBelow n tr.preceding) tr trs within in
    let below : AllBelow (length used) tr.preceding = rw sized (All-head (λ (tr : Entry). AllBelow n tr.preceding) tr trs within) in
    let k = chosen n x trs (cond (clears x tr used) (marked tr.preceding used) used) rest
    (within_next n tr trs used (clears x tr used) sized) in
    record { sized = ap suc k.sized; each = joined x tr trs used (clears x tr used) _ below refl k }

-- there is no other
pub only : (n : ℕ) (x : ℕ → Bool) (trs : List Entry) (used set : List Bool) → AreWithin n trs → length used ≡ n → Chosen x trs used set
    → set ≡ cleared_from x trs used
only n x [] used [] within sized k = refl
only n x [] used (b ∷ bs) within sized k = absurd (let e : length (b ∷ bs) ≡ 0 = k.sized in omega arith)
only n x (tr ∷ trs) used [] within sized k = absurd (let e : 0 ≡ length (tr ∷ trs) = k.sized in omega arith)
only n x (tr ∷ trs) used (b ∷ bs) within sized k =
    let rest : AreWithin n trs = All-tail (λ (tr : Entry). AllBelow n tr.preceding) tr trs within in
    let below : AllBelow (length used) tr.preceding = rw sized (All-head (λ (tr : Entry). AllBelow n tr.preceding) tr trs within) in
    let e : b ≡ clears x tr used = head_is x tr trs used b bs k in
    let t = only n x trs (cond b (marked tr.preceding used) used) bs rest (within_next n tr trs used b sized)
    (tail_is x tr trs used b bs below k) in
    ap (λ xs. b ∷ xs) t ∙ rw e refl
