-- What a scan handles in all.
use Rattle.std.proofs.Common.{◌≡◌, ℕ, suc, ◌+◌, ◌*◌, ◌<◌, ◌≤◌, List, [], ◌∷◌, length, get_or, refl, sym, ◌∙◌, ap, arith}
use Rattle.std.specs.Prelude.{All, map, sum_by}
use Rattle.std.proofs.lemmas.List.Elements.{All-head, All-tail}
use Rattle.std.specs.List.{range_with_len}
use Rattle.std.proofs.lemmas.List.Sorted.{sum_by-IsPermutation}
use Rattle.std.proofs.lemmas.List.Sums.{sum_by-cons}
use Rattle.sfc_base.specs.declared.ids.TransitionId.{TransitionId}
use Rattle.sfc_tables.specs.Ranks.{transitions_to}
use Rattle.sfc_tables.specs.Tables.{Sides, Tabled, AreSides, AreTables, sides_at}
use Rattle.sfc_evolve.specs.Private.Keeping.{clearing_work, moving_work}

abbrev none : Sides
none = record { preceding = []; following = [] }

-- a sum over the numbers from a on is the sum over what they name
numbered_sum : (f : Sides → ℕ) (g : TransitionId → ℕ) (a : ℕ) (all : List Sides)
    → ((k : ℕ) → k < length all → g record { 0 = a + k } ≡ f (get_or all k none))
    → sum_by g (map (λ (i : ℕ). let id : TransitionId = record { 0 = i } in id) (range_with_len a (length all))) ≡ sum_by f all
numbered_sum f g a [] each = refl
numbered_sum f g a (s ∷ all) each =
    let id : ℕ → TransitionId = λ i. record { 0 = i } in
    let e : a + 0 ≡ a = omega arith in
    let first : g (id a) ≡ f s = ap (λ k. g (id k)) (sym e) ∙ each 0 (omega arith) in
    let rest = numbered_sum f g (a + 1) all
    (λ k lt. let e : a + 1 + k ≡ a + suc k = omega arith in ap (λ j. g (id j)) e ∙ each (suc k) (omega arith)) in
    sum_by-cons g (id a) (map id (range_with_len (a + 1) (length all)))
    ∙ (λ i. first i + rest i)
    ∙ sym (sum_by-cons f s all)

-- the rank leaves the work
pub clearing_is : (tables : Tabled) → AreTables tables
    → clearing_work tables.sides tables.ranked ≡ sum_by (λ (s : Sides). 1 + 3 * length s.preceding) tables.sides
clearing_is tables sound =
    let g : TransitionId → ℕ = λ tr. 1 + 3 * length (sides_at tables.sides tr).preceding in
    sum_by-IsPermutation g (transitions_to (length tables.sides)) tables.ranked sound.ranked
    ∙ numbered_sum (λ (s : Sides). 1 + 3 * length s.preceding) g 0 tables.sides
    (λ k lt. let e : 0 + k ≡ k = omega arith in ap (λ j. g record { 0 = j }) e)

pub work_of_scan : (n : ℕ) (sides : List Sides) → All (AreSides n) sides
    → sum_by (λ (s : Sides). 1 + 3 * length s.preceding) sides + moving_work sides + 4 * length sides
    ≤ 4 * length sides + 5 * sum_by (λ (s : Sides). length s.preceding + length s.following) sides
work_of_scan n [] all = omega arith
work_of_scan n (s ∷ sides) all =
    let here : 0 < length s.following = (All-head (AreSides n) s sides all).some_following in
    omega (
      arith,
      here,
      work_of_scan n sides (All-tail (AreSides n) s sides all),
      sum_by-cons (λ (s : Sides). 1 + 3 * length s.preceding) s sides,
      sum_by-cons (λ (s : Sides). 1 + 2 * length s.preceding + length s.following) s sides,
      sum_by-cons
          (λ (s : Sides). length s.preceding + length s.following) s sides,
    )
