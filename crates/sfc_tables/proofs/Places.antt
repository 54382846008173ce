-- The places of actions in their list.
use Rattle.std.proofs.Common.{◌≡◌, ℕ, zero, suc, ◌+◌, ◌<◌, ◌≤◌, ◌==◌, not, Bool}
use Rattle.std.proofs.Common.{true, false, cond, List, [], ◌∷◌, ◌++◌, length, refl, ap, arith}
use Rattle.std.specs.Prelude.{map, position, Some}
use Rattle.std.specs.List.{position_or_len, range_with_len}
use Rattle.std.proofs.lemmas.Bool.{lt-ltb}
use Rattle.std.proofs.lemmas.Bool.Decides.{nat_tests}
use Rattle.std.proofs.lemmas.List.FromFn.{length-map-range_with_len}
use Rattle.sfc_base.specs.declared.references.Variable.{Variable}
use Rattle.sfc_base.specs.declared.ids.ActionId.{ActionId}
use Rattle.sfc_plant.specs.declared.association.Target.{Target}
use Rattle.sfc_plant.specs.declared.association.Target.TheVariants as target
use Rattle.sfc_tables.specs.Actions.{same_variable, same_target, declared_actions}
use Rattle.sfc_tables.specs.Private.Listing.{listed}
use Rattle.sfc_tables.proofs.Listings.{listed_long}

abbrev pub declared : ℕ → Target
declared i = let id : ActionId = record { 0 = i } in target.Declared id

-- no declared action is a variable
pub none_declared : (v : Variable) (a n : ℕ) → position_or_len (same_target (target.Boolean v)) (map declared (range_with_len a n)) ≡ n
none_declared v a zero = refl
none_declared v a (suc n) = let rest = none_declared v (a + 1) n in omega arith

step_boolean : (b : Bool) (p q m k : ℕ) → cond (not b) (1 + p) 0 < suc m → (p < m → (q < k) × (p ≡ q))
    → (cond (not b) (1 + q) 0 < suc k) × (cond (not b) (1 + p) 0 ≡ cond (not b) (1 + q) 0)
step_boolean true p q m k lt rest = (omega arith, refl)
step_boolean false p q m k lt rest = let r = rest (omega arith) in (omega (arith, r.0), ap (λ j. 1 + j) r.1)

pub place_boolean : (vs : List Variable) (n : ℕ) (v : Variable)
    → position_or_len (same_target (target.Boolean v)) (listed vs n) < length (listed vs n)
    → (position_or_len (same_variable v) vs < length vs)
    × (position_or_len (same_target (target.Boolean v)) (listed vs n) ≡ position_or_len (same_variable v) vs)
place_boolean [] n v lt = absurd (omega (arith, none_declared v 0 n, length-map-range_with_len declared 0 n))
place_boolean (w ∷ vs) n v lt =
    step_boolean (same_variable v w) (position_or_len (same_target (target.Boolean v)) (listed vs n))
    (position_or_len (same_variable v) vs) (length (listed vs n)) (length vs)
    lt (place_boolean vs n v)

pub position_found : (vs : List Variable) (v : Variable) → position_or_len (same_variable v) vs < length vs
    → position (same_variable v) vs ≡ Some (position_or_len (same_variable v) vs)
position_found vs v lt = rw (lt-ltb (position_or_len (same_variable v) vs) (length vs) lt) refl

-- no variable is declared
pub past_booleans : (vs : List Variable) (more : List Target) (id : ActionId)
    → position_or_len (same_target (target.Declared id)) (map (λ v. target.Boolean v) vs ++ more)
    ≡ length vs + position_or_len (same_target (target.Declared id)) more
past_booleans [] more id = omega arith
past_booleans (v ∷ vs) more id = let rest = past_booleans vs more id in omega arith

step_declared : (b : Bool) (id a p n : ℕ) → (id == a) ≡ b → a ≤ id → cond (not b) (1 + p) 0 < suc n
    → (a + 1 ≤ id → p < n → a + 1 + p ≡ id) → a + cond (not b) (1 + p) 0 ≡ id
step_declared true id a p n e le lt rest = grind (arith, nat_tests)
step_declared false id a p n e le lt rest =
    let above : a + 1 ≤ id = grind (arith, nat_tests) in
    let r = rest above (omega arith) in
    omega arith

place_among : (n a : ℕ) (id : ActionId) → a ≤ id.0
    → position_or_len (same_target (target.Declared id)) (map declared (range_with_len a n)) < n
    → a + position_or_len (same_target (target.Declared id)) (map declared (range_with_len a n)) ≡ id.0
place_among zero a id le lt = absurd (omega arith)
place_among (suc n) a id le lt =
    step_declared ((id.0 == a)) id.0 a
    (position_or_len (same_target (target.Declared id)) (map declared (range_with_len (a + 1) n))) n refl le lt
    (place_among n (a + 1) id)

pub place_declared : (vs : List Variable) (n : ℕ) (id : ActionId)
    → position_or_len (same_target (target.Declared id)) (listed vs n) < length (listed vs n)
    → position_or_len (same_target (target.Declared id)) (listed vs n) ≡ length vs + id.0
place_declared vs n id lt =
    let skip = past_booleans vs (declared_actions n) id in
    let long = listed_long vs n in
    let found = place_among n 0 id (omega arith) (omega arith) in
    omega arith
