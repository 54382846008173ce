-- The numbers of declared actions: behind the Boolean ones, in the order in which they are declared.
use Rattle.std.proofs.Common.{◌≡◌, ℕ, zero, suc, ◌+◌, ◌<◌, ◌≤◌, ◌==◌, not, Bool, true, false, cond, List, [], ◌∷◌, ◌++◌, length, refl, arith}
use Rattle.std.specs.Prelude.{map}
use Rattle.std.specs.List.{position_or_len, range_with_len}
use Rattle.std.proofs.lemmas.Bool.Decides.{nat_tests}
use Rattle.std.proofs.lemmas.List.{length-append, length-map}
use Rattle.std.proofs.lemmas.List.FromFn.{length-map-range_with_len}
use Rattle.sfc_base.specs.declared.references.Variable.{Variable}
use Rattle.sfc_base.specs.declared.ids.ActionId.{ActionId}
use Rattle.sfc_plant.specs.declared.association.Target.{Target}
use Rattle.sfc_plant.specs.declared.association.Target.TheVariants as target
use Rattle.sfc_plant.specs.declared.chart.Chart.{Chart}
use Rattle.sfc_replay.specs.sfc_tables.Actions.{same_target, declared_actions, boolean_actions, actions_of, number_of}

abbrev declared : ℕ → Target
declared i = let id : ActionId = record { 0 = i } in target.Declared id

-- p is the place of id among n that count from a; it is n where id isn't there
record IsPlace (id a n p : ℕ) : Type 0 where
  inside : id < a + n → a + p ≡ id
  outside : a + n ≤ id → p ≡ n

one_more : (b : Bool) (id a n p : ℕ) → (id == a) ≡ b → a ≤ id → (a + 1 ≤ id → IsPlace id (a + 1) n p) → IsPlace id a (suc n) (cond (not b) (1 + p) 0)
one_more true id a n p e le rest =
    let same : id ≡ a = grind (arith, nat_tests) in
    record { inside = λ lt. omega arith; outside = λ ge. absurd (omega arith) }
one_more false id a n p e le rest =
    let above : a + 1 ≤ id = grind (arith, nat_tests) in
    let r = rest above in
    record {
      inside = λ lt. let h = r.inside (omega arith) in omega arith;
      outside = λ ge. let h = r.outside (omega arith) in omega arith;
    }

among : (n a : ℕ) (id : ActionId) → a ≤ id.0 → IsPlace id.0 a n (position_or_len (same_target (target.Declared id)) (map declared (range_with_len a n)))
among zero a id le = record { inside = λ lt. absurd (omega arith); outside = λ ge. refl }
among (suc n) a id le =
    one_more (id.0 == a) id.0 a n (position_or_len (same_target (target.Declared id)) (map declared (range_with_len (a + 1) n))) refl le (among n (a + 1) id)

-- no Boolean action is a declared one
behind_booleans : (vs : List Variable) (more : List Target) (id : ActionId)
    → position_or_len (same_target (target.Declared id)) (map (λ v. target.Boolean v) vs ++ more)
    ≡ length vs + position_or_len (same_target (target.Declared id)) more
behind_booleans [] more id = omega arith
behind_booleans (v ∷ vs) more id = let rest = behind_booleans vs more id in omega arith

-- how many actions a chart has, and the number of a declared one
pub record IsNumbered (chart : Chart) (id : ActionId) (m : ℕ) : Type 0 where
  pub count : length (actions_of chart) ≡ length (boolean_actions chart) + length chart.actions
  pub inside : id.0 < length chart.actions → m ≡ length (boolean_actions chart) + id.0
  pub outside : length chart.actions ≤ id.0 → m ≡ length (boolean_actions chart) + length chart.actions

pub declared_number : (chart : Chart) (id : ActionId) → IsNumbered chart id (number_of (actions_of chart) (target.Declared id)).0
declared_number chart id =
    let vs = boolean_actions chart in
    let n = length chart.actions in
    let behind = behind_booleans vs (declared_actions n) id in
    let place = among n 0 id (omega arith) in
    let booleans = length-map vs (λ v. target.Boolean v) in
    let others = length-map-range_with_len declared 0 n in
    let all = length-append (map (λ v. target.Boolean v) vs) (declared_actions n) in
    record {
      count = omega arith;
      inside = λ lt. let h = place.inside (omega arith) in omega arith;
      outside = λ ge. let h = place.outside (omega arith) in omega arith;
    }
