-- What tables name is there.
use Rattle.std.proofs.Common.{◌≡◌, ℕ, zero, suc, ◌+◌, ◌-◌, ◌*◌, ◌<◌, ◌≤◌, List, [], ◌∷◌, length, get_or, drop, refl, sym, subst, inl, inr, arith}
use Rattle.std.specs.Prelude.{All}
use Rattle.std.specs.List.{range_with_len}
use Rattle.std.proofs.lemmas.Bool.{cases_lt}
use Rattle.std.proofs.lemmas.List.Elements.{All-nil, All-cons, All-map}
use Rattle.std.proofs.lemmas.List.Sorted.{All-permutation}
use Rattle.std.proofs.lemmas.List.Sums.{sum_by-cons}
use Rattle.sfc_base.specs.declared.references.StepId.{StepId}
use Rattle.sfc_base.specs.declared.ids.TransitionId.{TransitionId}
use Rattle.sfc_tables.specs.Ranks.{transitions_to}
use Rattle.sfc_tables.specs.Tables.{Sides, Tabled, AreTables, AreSides, sides_at}
use Rattle.sfc_evolve.specs.Private.Keeping.{AllBelow, moving_work}

pub range_below : (a n : ℕ) → All (λ i. i < a + n) (range_with_len a n)
range_below a zero = All-nil (λ i. i < a + 0)
range_below a (suc n) =
    let e : a + 1 + n ≡ a + suc n = omega arith in
    All-cons (λ i. i < a + suc n) a (range_with_len (a + 1) n) (omega arith)
    (subst (λ (k : ℕ). All (λ i. i < k) (range_with_len (a + 1) n)) e (range_below (a + 1) n))

id_of : ℕ → TransitionId
id_of i = record { 0 = i }

pub ranked_below : (tables : Tabled) → AreTables tables → All (λ (tr : TransitionId). tr.0 < length tables.sides) tables.ranked
ranked_below tables sound =
    All-permutation (λ (tr : TransitionId). tr.0 < length tables.sides) (transitions_to (length tables.sides)) tables.ranked sound.ranked
    (All-map (λ (tr : TransitionId). tr.0 < length tables.sides) (λ (i : ℕ). let id : TransitionId = record { 0 = i } in id)
    (range_with_len 0 (length tables.sides)) (λ k d lt.
    let h = range_below 0 (length tables.sides) k d lt in omega arith))

pub ranked_at : (tables : Tabled) → AreTables tables → (items : List TransitionId) → items ≡ tables.ranked → (i : ℕ) (d : TransitionId)
    → i < length items
    → (get_or items i d).0 < length tables.sides
ranked_at tables sound items is i d lt =
    subst (λ (trs : List TransitionId). All (λ (tr : TransitionId). tr.0 < length tables.sides) trs) (sym is)
    (ranked_below tables sound) i d lt

pub sides_below : (tables : Tabled) → AreTables tables → (tr : TransitionId) → tr.0 < length tables.sides
    → AreSides (length tables.initial) (sides_at tables.sides tr)
sides_below tables sound tr lt = sound.sides tr.0 record { preceding = []; following = [] } lt

pub preceding_below : (tables : Tabled) → AreTables tables → (n : ℕ) → n ≡ length tables.initial → (tr : TransitionId)
    → tr.0 < length tables.sides → (steps : List StepId) → steps ≡ (sides_at tables.sides tr).preceding → AllBelow n steps
preceding_below tables sound n e tr lt steps is = rw (e, is) (sides_below tables sound tr lt).preceding

pub following_below : (tables : Tabled) → AreTables tables → (n : ℕ) → n ≡ length tables.initial → (tr : TransitionId)
    → tr.0 < length tables.sides → (steps : List StepId) → steps ≡ (sides_at tables.sides tr).following → AllBelow n steps
following_below tables sound n e tr lt steps is = rw (e, is) (sides_below tables sound tr lt).following

-- ---- work

-- each transition, the steps before it twice, and those after it
moving-cons : (s : Sides) (all : List Sides)
    → moving_work (s ∷ all) ≡ 1 + 2 * length s.preceding + length s.following + moving_work all
moving-cons s all = sum_by-cons (λ (x : Sides). 1 + 2 * length x.preceding + length x.following) s all

pub moving_covers : (all : List Sides) → length all ≤ moving_work all
moving_covers [] = omega arith
moving_covers (s ∷ all) = omega (arith, moving_covers all, moving-cons s all)

pub moving_left : (all : List Sides) (at tr : ℕ) → at ≤ tr → tr < length all
    → suc tr - at + 2 * length (sides_at all record { 0 = tr }).preceding + length (sides_at all record { 0 = tr }).following
    + moving_work (drop (suc tr) all) ≤ moving_work (drop at all)
moving_left [] at tr le lt = absurd (omega arith)
moving_left (s ∷ all) zero zero le lt = omega (arith, moving-cons s all)
moving_left (s ∷ all) zero (suc tr) le lt = omega (arith, moving_left all 0 tr (omega arith) (omega arith), moving-cons s all)
moving_left (s ∷ all) (suc at) zero le lt = absurd (omega arith)
moving_left (s ∷ all) (suc at) (suc tr) le lt = omega (arith, moving_left all at tr (omega arith) (omega arith))

-- ---- all sides, beyond the last transition too

at_past : (all : List Sides) (i : ℕ) (d : Sides) → length all ≤ i → get_or all i d ≡ d
at_past [] i d le = refl
at_past (s ∷ all) zero d le = absurd (omega arith)
at_past (s ∷ all) (suc i) d le = at_past all i d (omega arith)

pub all_preceding_below : (tables : Tabled) → AreTables tables → (tr : TransitionId)
    → AllBelow (length tables.initial) (sides_at tables.sides tr).preceding
all_preceding_below tables sound tr = elim (cases_lt tr.0 (length tables.sides)) [
  | inl lt ↦ (sides_below tables sound tr lt).preceding
  | inr le ↦ (
      let none : sides_at tables.sides tr ≡ record { preceding = []; following = [] } =
      at_past tables.sides tr.0 record { preceding = []; following = [] } le in
      subst (λ (sides : Sides). AllBelow (length tables.initial) sides.preceding) (sym none)
      (All-nil (λ (step : StepId). step.0 < length tables.initial)))
]

pub all_following_below : (tables : Tabled) → AreTables tables → (tr : TransitionId)
    → AllBelow (length tables.initial) (sides_at tables.sides tr).following
all_following_below tables sound tr = elim (cases_lt tr.0 (length tables.sides)) [
  | inl lt ↦ (sides_below tables sound tr lt).following
  | inr le ↦ (
      let none : sides_at tables.sides tr ≡ record { preceding = []; following = [] } =
      at_past tables.sides tr.0 record { preceding = []; following = [] } le in
      subst (λ (sides : Sides). AllBelow (length tables.initial) sides.following) (sym none)
      (All-nil (λ (step : StepId). step.0 < length tables.initial)))
]
