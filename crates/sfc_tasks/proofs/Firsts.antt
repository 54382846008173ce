-- The first of the first n tasks, with one task more.
use Rattle.std.proofs.Common.{◌≡◌, ◌≢◌, inl, inr, ℕ, ◌+◌, ◌<◌, ◌≤◌, arith, List, ℤ, ◌≤ℤ◌, ◌<ℤ◌, Option, Some, None, refl, sym, ◌∙◌, ap, subst}
use Rattle.std.proofs.lemmas.Bool.Decides.{eqb_tells}
use Rattle.std.proofs.lemmas.Int.{ints}
use borrow.Author.Count.{below_more}
use Rattle.sfc_tasks.specs.declared.task_slot.TaskSlot.{TaskSlot}
use Rattle.sfc_tasks.specs.Pick.{Rank, RanksBefore}
use Rattle.sfc_tasks.specs.declared.ranking.Waiting.{Waiting}
use Rattle.sfc_tasks.specs.Private.Keeping.{slot_at, rank_at, IsFirst, FirstOf, IsBest, BestOf}

some_same : (s u : ℤ) (o : Option ℤ) → o ≡ Some s → o ≡ Some u → s ≡ u
some_same s u o e f = cc

some_none : {P : Type 0} (s : ℤ) (o : Option ℤ) → o ≡ Some s → o ≡ None → P
some_none s o e f = absurd cc

-- the order of ranks is transitive
ranks_through : (a b c : Rank) → RanksBefore a b → RanksBefore b c → RanksBefore a c
ranks_through a b c ab bc = record {
  priority = omega (arith, ab.priority, bc.priority);
  since = λ same.
      let p : a.priority ≡ b.priority = omega (arith, ab.priority, bc.priority) in
      let q : b.priority ≡ c.priority = omega (arith, ab.priority, bc.priority) in
      omega (arith, ints, ab.since p, bc.since q);
  number = λ same equal.
      let p : a.priority ≡ b.priority = omega (arith, ab.priority, bc.priority) in
      let q : b.priority ≡ c.priority = omega (arith, ab.priority, bc.priority) in
      let s : a.since ≡ b.since = omega (arith, ints, ab.since p, bc.since q) in
      let t : b.since ≡ c.since = omega (arith, ints, ab.since p, bc.since q) in
      omega (arith, ab.number p s, bc.number q t);
}

-- two ranks can't each be before the other
pub one_before : {P : Type 0} (a b : Rank) → RanksBefore a b → RanksBefore b a → P
one_before a b ab ba =
    let p : a.priority ≡ b.priority = omega (arith, ab.priority, ba.priority) in
    let s : a.since ≡ b.since = omega (arith, ints, ab.since p, ba.since (sym p)) in
    absurd (omega (arith, ab.number p s, ba.number (sym p) (sym s)))

ranks_by_time : (a b : Rank) → (a.priority ≤ b.priority) × (a.priority ≡ b.priority → a.since <ℤ b.since) → RanksBefore a b
ranks_by_time a b h = record {
  priority = h.0;
  since = λ same. omega (arith, ints, h.1 same);
  number = λ same equal. absurd (omega (arith, ints, h.1 same));
}

ranks_by_number : (a b : Rank) → (a.priority ≤ b.priority) × (a.priority ≡ b.priority → a.since ≤ℤ b.since) → a.number < b.number → RanksBefore a b
ranks_by_number a b h lt = record { priority = h.0; since = h.1; number = λ same equal. lt }

-- what is to be shown of each other task
abbrev Other : List TaskSlot → ℕ → ℤ → ℕ → Type 0
Other slots k since j = (other : ℤ) → j ≢ k → (slot_at slots j).since ≡ Some other
    → RanksBefore (rank_at slots k since) (rank_at slots j other)

first_more : (slots : List TaskSlot) (i k : ℕ) (since : ℤ) → k < i + 1 → (slot_at slots k).since ≡ Some since
    → ((j : ℕ) → j < i → Other slots k since j) → Other slots k since i → IsFirst slots (i + 1) k
first_more slots i k s lt waits below here = record {
  number = lt;
  since = s;
  waits = waits;
  first = λ j other jlt ne e. below_more (Other slots k s) i below here j jlt other ne e;
}

-- task i does not wait
pub stays_with : (slots : List TaskSlot) (i : ℕ) (best : Option ℕ) → FirstOf slots i best → (slot_at slots i).since ≡ None
    → FirstOf slots (i + 1) best
stays_with slots i None h e = below_more (λ j. (slot_at slots j).since ≡ None) i h e
stays_with slots i (Some k) h e =
    let lt : k < i + 1 = omega (arith, h.number) in
    first_more slots i k h.since lt h.waits (λ j jlt other ne f. h.first j other jlt ne f)
    (λ other ne f. some_none other _ f e)

-- no other waits
pub begins : (slots : List TaskSlot) (i : ℕ) (s : ℤ) → FirstOf slots i None → (slot_at slots i).since ≡ Some s
    → IsFirst slots (i + 1) i
begins slots i s h e =
    let lt : i < i + 1 = omega arith in
    first_more slots i i s lt e (λ j jlt other ne f. some_none other _ f (h j jlt)) (λ other ne f. absurd (ne refl))

-- task i goes before the first of those before it
pub overtakes : (slots : List TaskSlot) (i k : ℕ) (s b : ℤ) → IsFirst slots i k → (slot_at slots i).since ≡ Some s
    → (slot_at slots k).since ≡ Some b
    → ((slot_at slots i).priority ≤ (slot_at slots k).priority)
    × ((slot_at slots i).priority ≡ (slot_at slots k).priority → s <ℤ b)
    → IsFirst slots (i + 1) i
overtakes slots i k s b h e f before =
    let lt : i < i + 1 = omega arith in
    let over : RanksBefore (rank_at slots i s) (rank_at slots k b) = ranks_by_time _ _ before in
    first_more slots i i s lt e
    (λ j jlt other ne g.
    elim (eqb_tells j k) as (λ _. RanksBefore (rank_at slots i s) (rank_at slots j other)) [
      | inl w ↦
          let same : b ≡ other = some_same b other _ f (sym (ap (λ (x : ℕ). (slot_at slots x).since) w.1) ∙ g) in
          subst (λ (x : ℕ). RanksBefore (rank_at slots i s) (rank_at slots x other)) (sym w.1)
          (subst (λ (x : ℤ). RanksBefore (rank_at slots i s) (rank_at slots k x)) same over)
      | inr w ↦
          let same : h.since ≡ b = some_same h.since b _ h.waits f in
          ranks_through _ _ _ over
          (subst (λ (x : ℤ). RanksBefore (rank_at slots k x) (rank_at slots j other)) same (h.first j other jlt w.1 g))
    ])
    (λ other ne g. absurd (ne refl))

-- it does not
pub stays : (slots : List TaskSlot) (i k : ℕ) (s b : ℤ) → IsFirst slots i k → (slot_at slots i).since ≡ Some s
    → (slot_at slots k).since ≡ Some b
    → ((slot_at slots k).priority ≤ (slot_at slots i).priority)
    × ((slot_at slots k).priority ≡ (slot_at slots i).priority → b ≤ℤ s)
    → IsFirst slots (i + 1) k
stays slots i k s b h e f before =
    let lt : k < i + 1 = omega (arith, h.number) in
    let same : h.since ≡ b = some_same h.since b _ h.waits f in
    first_more slots i k b lt f
    (λ j jlt other ne g.
    subst (λ (x : ℤ). RanksBefore (rank_at slots k x) (rank_at slots j other)) same (h.first j other jlt ne g))
    (λ other ne g.
    let equal : s ≡ other = some_same s other _ e g in
    subst (λ (x : ℤ). RanksBefore (rank_at slots k b) (rank_at slots i x)) equal
    (ranks_by_number (rank_at slots k b) (rank_at slots i s) before h.number))

-- ---- with what is known of it

best_of_some : (slots : List TaskSlot) (i : ℕ) (best : Option Waiting) (b : Waiting) → best ≡ Some b → BestOf slots i best
    → IsBest slots i b
best_of_some slots i best b e h = subst (λ (x : Option Waiting). BestOf slots i x) e h

pub best_stays_with : (slots : List TaskSlot) (i : ℕ) (best : Option Waiting) → BestOf slots i best → (slot_at slots i).since ≡ None
    → BestOf slots (i + 1) best
best_stays_with slots i None h e = stays_with slots i None h e
best_stays_with slots i (Some b) h e =
    record { first = stays_with slots i (Some b.number) h.first e; since = h.since; priority = h.priority }

pub best_begins : (slots : List TaskSlot) (i : ℕ) (best : Option Waiting) (this : Waiting) → best ≡ None → this.number ≡ i
    → (slot_at slots i).since ≡ Some this.since → (slot_at slots i).priority ≡ this.priority → BestOf slots i best
    → IsBest slots (i + 1) this
best_begins slots i best this none same e f h =
    let before : FirstOf slots i None = subst (λ (x : Option Waiting). BestOf slots i x) none h in
    record {
      first = subst (λ (x : ℕ). IsFirst slots (i + 1) x) (sym same) (begins slots i this.since before e);
      since = ap (λ (x : ℕ). (slot_at slots x).since) same ∙ e;
      priority = ap (λ (x : ℕ). (slot_at slots x).priority) same ∙ f;
    }

pub best_overtakes : (slots : List TaskSlot) (i : ℕ) (best : Option Waiting) (this b : Waiting) → best ≡ Some b → this.number ≡ i
    → (slot_at slots i).since ≡ Some this.since → (slot_at slots i).priority ≡ this.priority → BestOf slots i best
    → (this.priority ≤ b.priority) × (this.priority ≡ b.priority → this.since <ℤ b.since) → IsBest slots (i + 1) this
best_overtakes slots i best this b is same e f h before =
    let was = best_of_some slots i best b is h in
    let over = overtakes slots i b.number this.since b.since was.first e was.since
    (omega (arith, f, was.priority, before.0), λ equal. before.1 (sym f ∙ equal ∙ was.priority)) in
    record {
      first = subst (λ (x : ℕ). IsFirst slots (i + 1) x) (sym same) over;
      since = ap (λ (x : ℕ). (slot_at slots x).since) same ∙ e;
      priority = ap (λ (x : ℕ). (slot_at slots x).priority) same ∙ f;
    }

pub best_stays : (slots : List TaskSlot) (i : ℕ) (best : Option Waiting) (b : Waiting) (since : ℤ) (priority : ℕ) → best ≡ Some b
    → (slot_at slots i).since ≡ Some since → (slot_at slots i).priority ≡ priority → BestOf slots i best
    → (b.priority ≤ priority) × (b.priority ≡ priority → b.since ≤ℤ since) → IsBest slots (i + 1) b
best_stays slots i best b since priority is e f h before =
    let was = best_of_some slots i best b is h in
    let first = stays slots i b.number since b.since was.first e was.since
    (omega (arith, f, was.priority, before.0), λ equal. before.1 (sym was.priority ∙ equal ∙ f)) in
    record { first = first; since = was.since; priority = was.priority }
