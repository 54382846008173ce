-- A scan in which the condition of one enabled transition alone is TRUE clears it, and no other.
use Rattle.std.proofs.Common.{◌≡◌, ℕ, zero, suc, ◌+◌, ◌<◌, ◌==◌, ◌||◌, ◌&&◌, not, Bool, true, false, cond, List, [], ◌∷◌, length}
use Rattle.std.proofs.Common.{refl, sym, ap, ◌∙◌, arith, ℤ, ◌-ℤ◌}
use Rattle.std.specs.Prelude.{replicate, slice_set}
use Rattle.std.specs.List.{list_any}
use Rattle.std.proofs.lemmas.Bool.Decides.{nat_tests}
use Rattle.std.proofs.lemmas.List.{length-set, length-replicate}
use Rattle.sfc_base.specs.declared.references.StepId.{StepId}
use Rattle.sfc_flags.specs.Flags.{flag, places_from, set_from}
use Rattle.sfc_tables.specs.Tables.{Tabled, AreTables}
use Rattle.sfc_evolve.specs.Marks.{has, marked}
use Rattle.sfc_evolve.specs.Clearing.{step_count, transition_count, preceding_of, following_of, is_enabled, of_rank, cleared_set, MayClear}
use Rattle.sfc_evolve.specs.Evolution.{IsAlone, some_cleared}
use Rattle.sfc_evolve.specs.Private.Keeping.{AllBelow, number, unmarked, left_at, put_at}
use Rattle.sfc_evolve.proofs.Flagged.{one_set, flag-marked, flag-unmarked, length-unmarked, number-left_at, number-put_at}
use Rattle.sfc_evolve.proofs.Next.{HasMoved, Advanced, none_set, none_from}
use Rattle.sfc_evolve.proofs.Placed.{one_rank, only_set}
use Rattle.sfc_evolve.proofs.TableFacts.{all_preceding_below, all_following_below}

flips : (x y : ℕ) → (x == y) ≡ (y == x)
flips x y = grind (arith, nat_tests)

same_place : (x y : ℕ) → (x == y) ≡ true → x ≡ y
same_place x y e = grind (arith, nat_tests)

itself : (x : ℕ) → (x == x) ≡ true
itself x = grind (arith, nat_tests)

as_is : (b : Bool) → cond b true false ≡ b
as_is true = refl
as_is false = refl

or_false : (b : Bool) → (b || false) ≡ b
or_false true = refl
or_false false = refl

-- where all are FALSE and one is put, it is alone
pub put_alone : (n transition : ℕ) → transition < n → IsAlone transition (slice_set (replicate n false) transition true)
put_alone n transition lt tr =
    one_set (replicate n false) true transition tr (omega (arith, length-replicate n false))
    ∙ ap (λ b. cond (transition == tr) true b) (none_set n tr)
    ∙ as_is (transition == tr)
    ∙ flips transition tr

set_alone : (n i k j : ℕ) → k < n → j ≡ i + k → set_from i (slice_set (replicate n false) k true) ≡ j ∷ []
set_alone zero i k j lt e = absurd (omega arith)
set_alone (suc n) i zero j lt e = let same : i ≡ j = omega arith in
    ap (λ (places : List ℕ). i ∷ places) (none_from n (suc i)) ∙ ap (λ (place : ℕ). place ∷ []) same
set_alone (suc n) i (suc k) j lt e = set_alone n (suc i) k j (omega arith) (omega arith)

-- what is cleared is this transition
module _ (tables : Tabled) (sound : AreTables tables) (x : ℕ → Bool) (conditions : List Bool) (transition : ℕ)
    (lt : transition < transition_count tables) (on : is_enabled x (preceding_of tables.sides transition) ≡ true)
    (alone : IsAlone transition conditions) where
  abbrev set : List Bool
  set = slice_set (replicate (transition_count tables) false) transition true

  is_it : (tr : ℕ) → flag set tr ≡ true → tr ≡ transition
  is_it tr e = same_place tr transition (sym (put_alone (transition_count tables) transition lt tr) ∙ e)

  may_clear : (j : ℕ) → j < transition_count tables → of_rank tables j ≡ transition → MayClear tables x conditions set j
  may_clear j within is = record {
    enabled = ap (λ tr. is_enabled x (preceding_of tables.sides tr)) is ∙ on;
    condition = alone (of_rank tables j) ∙ ap (λ tr. tr == transition) is ∙ itself transition;
    first = λ i less member. absurd (
        let same : of_rank tables i ≡ of_rank tables j = is_it (of_rank tables i) member ∙ sym is in
        let bad : true ≡ false =
        sym (itself (of_rank tables j)) ∙ ap (λ tr. tr == of_rank tables j) (sym same) ∙ one_rank tables sound i j less within in
        cc);
  }

  pub clears_it : set ≡ cleared_set tables x conditions
  clears_it =
      only_set tables sound x conditions set record {
        sized = length-set _ _ _ ∙ length-replicate (transition_count tables) false;
        each = λ j within. (
          (λ e. may_clear j within (is_it (of_rank tables j) e)),
          λ m. put_alone (transition_count tables) transition lt (of_rank tables j) ∙ sym (alone (of_rank tables j)) ∙ m.condition,
        );
      }

-- how the steps move
module _ (tables : Tabled) (sound : AreTables tables) (active : List Bool) (since held_times : List ℤ) (t : ℤ) (transition : ℕ)
    (lt : transition < transition_count tables) (cleared' on' active' : List Bool) (since' held_times' : List ℤ)
    (la : length active ≡ step_count tables) (ls : length since ≡ step_count tables) (lk : length held_times ≡ step_count tables)
    (clears : cleared' ≡ slice_set (replicate (transition_count tables) false) transition true)
    (marks : on' ≡ marked (following_of tables.sides transition) (replicate (step_count tables) false))
    (moves : active' ≡ marked (following_of tables.sides transition) (unmarked (preceding_of tables.sides transition) active))
    (begins : since' ≡ put_at t (following_of tables.sides transition) since)
    (keeps : held_times' ≡ left_at t since (preceding_of tables.sides transition) held_times) where
  abbrev n : ℕ
  n = step_count tables

  abbrev pre : List StepId
  pre = preceding_of tables.sides transition

  abbrev fol : List StepId
  fol = following_of tables.sides transition

  pre_below : AllBelow n pre
  pre_below = all_preceding_below tables sound record { 0 = transition }

  fol_below : AllBelow n fol
  fol_below = all_following_below tables sound record { 0 = transition }

  places : places_from cleared' 0 ≡ transition ∷ []
  places = ap (λ (f : List Bool). places_from f 0) clears ∙ set_alone (transition_count tables) 0 transition transition lt (omega arith)

  -- it alone counts
  counts : (side : ℕ → List StepId) (s : ℕ) → some_cleared side cleared' s ≡ has (side transition) s
  counts side s = ap (λ (trs : List ℕ). list_any (λ tr. has (side tr) s) trs) places ∙ or_false (has (side transition) s)

  comes : (s : ℕ) → flag on' s ≡ has fol s
  comes s =
      ap (λ f. flag f s) marks
      ∙ flag-marked n fol (replicate n false) s (length-replicate n false) fol_below
      ∙ ap (λ b. has fol s || b) (none_set n s)
      ∙ or_false (has fol s)

  either_way : (x y : Bool) → (x || y) ≡ (y || x)
  either_way true true = refl
  either_way true false = refl
  either_way false true = refl
  either_way false false = refl

  pub moved_alone : HasMoved tables active since held_times t cleared' on' active' since' held_times'
  moved_alone = record {
    held_times_are = λ s within.
        ap (λ xs. number xs s) keeps
        ∙ number-left_at n t since pre held_times s lk pre_below
        ∙ ap (λ b. cond b (t -ℤ number since s) (number held_times s)) (sym (counts (preceding_of tables.sides) s));
    since_is = λ s within.
        ap (λ xs. number xs s) begins
        ∙ number-put_at n t fol since s ls fol_below
        ∙ ap (λ b. cond b t (number since s)) (sym (comes s));
    active_is = λ s within.
        ap (λ f. flag f s) moves
        ∙ flag-marked n fol (unmarked pre active) s (length-unmarked pre active ∙ la) fol_below
        ∙ either_way (has fol s) (flag (unmarked pre active) s)
        ∙ (λ i. flag-unmarked n pre active s la pre_below i || sym (comes s) i)
        ∙ ap (λ b. (not b && flag active s) || flag on' s) (sym (counts (preceding_of tables.sides) s));
  }

  -- it was enabled
  pub enabled_alone : (x : ℕ → Bool) → is_enabled x pre ≡ true → (tr : ℕ) → flag cleared' tr ≡ true
      → is_enabled x (preceding_of tables.sides tr) ≡ true
  enabled_alone x on tr e =
      let it : tr ≡ transition =
      same_place tr transition (sym (ap (λ f. flag f tr) clears ∙ put_alone (transition_count tables) transition lt tr) ∙ e) in
      ap (λ k. is_enabled x (preceding_of tables.sides k)) it ∙ on

  pub advanced_alone : (begun : Bool) (conditions : List Bool) → begun ≡ true → IsAlone transition conditions
      → is_enabled (flag active) pre ≡ true
      → Advanced tables begun active since held_times conditions t cleared' on' active' since' held_times'
  advanced_alone begun conditions goes alone on = record {
    cleared_is = clears ∙ clears_it tables sound (flag active) conditions transition lt on alone;
    on_is = λ s within.
        comes s ∙ sym (counts (following_of tables.sides) s)
        ∙ sym (or_false (some_cleared (following_of tables.sides) cleared' s))
        ∙ ap (λ b. some_cleared (following_of tables.sides) cleared' s || (not b && flag tables.initial s)) (sym goes);
    moved = moved_alone;
  }
