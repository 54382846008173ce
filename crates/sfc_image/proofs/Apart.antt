-- Two actions that are variables have two variables, and these two numbers.
use Rattle.std.proofs.Common.{◌≡◌, ◌≢◌, ℕ, zero, suc, ◌+◌, ◌≤◌, ◌++◌, ◌∷◌, [], not, Bool, true, false, cond, arith, List, length, flat_map, map, filter, take, slice_get, Some, refl, sym, ◌∙◌, ap, subst}
use Rattle.std.specs.List.{range_with_len}
use Rattle.std.proofs.lemmas.List.{length-append}
use Rattle.sfc_base.specs.declared.references.Variable.{Variable}
use Rattle.sfc_base.specs.declared.references.Variable.TheVariants.{Global, Local}
use Rattle.sfc_plant.specs.declared.association.Target.TheVariants.{Boolean, Declared}
use Rattle.sfc_plant.specs.declared.chart.Chart.{Chart}
use Rattle.sfc_tables.specs.Actions.{same_variable, distinct, boolean_actions, booleans_of, associations_in, actions_of}
use Rattle.sfc_base.specs.declared.ids.ProgId.{ProgId}
use Rattle.sfc_plant.specs.Plants.{PlantData}
use Rattle.sfc_plant.specs.Image.{locals_of as locals_of_instance}
use Rattle.sfc_plant.specs.Finding.{chart_of, first_local, instance_locals}
use Rattle.sfc_image.specs.Environments.{number_of}
use Rattle.sfc_image.proofs.Counting.{same_number}
use Rattle.sfc_image.proofs.Numbers.{one_variable}

-- ---- each variable stands once

-- the variable is none of these
abbrev IsNone : Variable → List Variable → Type 0
IsNone v [] = Unit {0}
IsNone v (w ∷ ws) = (w ≢ v) × IsNone v ws

abbrev AreApart : List Variable → Type 0
AreApart [] = Unit {0}
AreApart (v ∷ vs) = IsNone v vs × AreApart vs

none_still : (v w : Variable) (ws : List Variable) (b : Bool) → w ≢ v → IsNone v ws → IsNone v (cond b (w ∷ ws) ws)
none_still v w ws true ne none = (ne, none)
none_still v w ws false ne none = none

none_filtered : (p : Variable → Bool) (v : Variable) (ws : List Variable) → IsNone v ws → IsNone v (filter p ws)
none_filtered p v [] none = none
none_filtered p v (w ∷ ws) none = none_still v w (filter p ws) (p w) none.0 (none_filtered p v ws none.1)

apart_still : (v : Variable) (vs : List Variable) (b : Bool) → IsNone v vs → AreApart vs → AreApart (cond b (v ∷ vs) vs)
apart_still v vs true none apart = (none, apart)
apart_still v vs false none apart = apart

apart_filtered : (p : Variable → Bool) (vs : List Variable) → AreApart vs → AreApart (filter p vs)
apart_filtered p [] apart = apart
apart_filtered p (v ∷ vs) apart =
    apart_still v (filter p vs) (p v) (none_filtered p v vs apart.0) (apart_filtered p vs apart.1)

same_itself : (v : Variable) → same_variable v v ≡ true
same_itself (Global a) = same_number a.0
same_itself (Local a) = same_number a.0

other_still : (v w : Variable) (ws : List Variable) (b : Bool) → same_variable w v ≡ b → IsNone v ws → IsNone v (cond (not b) (w ∷ ws) ws)
other_still v w ws true e none = none
other_still v w ws false e none =
    ((λ same. absurd (let on : same_variable w v ≡ true = ap (λ (x : Variable). same_variable x v) same ∙ same_itself v in cc)), none)

-- those that are not v
others_none : (v : Variable) (ws : List Variable) → IsNone v (filter (λ other. not (same_variable other v)) ws)
others_none v [] = tt
others_none v (w ∷ ws) =
    other_still v w (filter (λ other. not (same_variable other v)) ws) (same_variable w v) refl (others_none v ws)

distinct_apart : (vs : List Variable) → AreApart (distinct vs)
distinct_apart [] = tt
distinct_apart (v ∷ vs) =
    (others_none v (distinct vs), apart_filtered (λ other. not (same_variable other v)) (distinct vs) (distinct_apart vs))

not_there : (v : Variable) (ws : List Variable) (k : ℕ) → IsNone v ws → slice_get ws k ≢ Some v
not_there v [] k none e = absurd cc
not_there v (w ∷ ws) zero none e = none.0 (let same : w ≡ v = cc in same)
not_there v (w ∷ ws) (suc k) none e = not_there v ws k none.1 e

one_place : (vs : List Variable) (v : Variable) (a b : ℕ) → AreApart vs → slice_get vs a ≡ Some v → slice_get vs b ≡ Some v → a ≡ b
one_place [] v a b apart e f = absurd cc
one_place (w ∷ ws) v zero zero apart e f = refl
one_place (w ∷ ws) v zero (suc b) apart e f =
    let same : w ≡ v = cc in
    absurd (not_there v ws b (subst (λ (x : Variable). IsNone x ws) same apart.0) f)
one_place (w ∷ ws) v (suc a) zero apart e f =
    let same : w ≡ v = cc in
    absurd (not_there v ws a (subst (λ (x : Variable). IsNone x ws) same apart.0) e)
one_place (w ∷ ws) v (suc a) (suc b) apart e f = ap suc (one_place ws v a b apart.1 e f)

-- ---- among the actions of a chart

-- one action is one variable
pub same_action : (v w : Variable) → Boolean v ≡ Boolean w → v ≡ w
same_action v w e = cc

-- a variable among actions is one of the Boolean ones, which stand before the declared ones
boolean_place : (vs : List Variable) (n a k : ℕ) (v : Variable)
    → slice_get (map (λ x. Boolean x) vs ++ map (λ (i : ℕ). Declared (record { 0 = i })) (range_with_len k n)) a ≡ Some (Boolean v)
    → slice_get vs a ≡ Some v
boolean_place [] zero a k v e = absurd cc
boolean_place [] (suc n) zero k v e = absurd cc
boolean_place [] (suc n) (suc a) k v e = absurd (let none = boolean_place [] n a (k + 1) v e in cc)
boolean_place (w ∷ ws) n zero k v e = let same : Boolean w ≡ Boolean v = cc in ap (λ (x : Variable). Some x) (same_action w v same)
boolean_place (w ∷ ws) n (suc a) k v e = boolean_place ws n a k v e

pub one_action : (chart : Chart) (a b : ℕ) (v : Variable) → slice_get (actions_of chart) a ≡ Some (Boolean v)
    → slice_get (actions_of chart) b ≡ Some (Boolean v) → a ≡ b
one_action chart a b v e f =
    one_place (boolean_actions chart) v a b (distinct_apart (booleans_of (associations_in chart.steps)))
    (boolean_place (boolean_actions chart) (length chart.actions) a 0 v e)
    (boolean_place (boolean_actions chart) (length chart.actions) b 0 v f)

-- the locals of an instance go behind the globals
pub first_behind : (plant : PlantData) (p : ProgId) → length plant.globals ≤ first_local plant p
first_behind plant p =
    let all = length-append plant.globals (flat_map (locals_of_instance plant.types) (take p.0 plant.instances)) in
    omega (arith, all)

-- two actions of an instance's program have two numbers
pub other_number : (plant : PlantData) (p : ProgId) (a b i : ℕ) (v w : Variable) → b ≢ a
    → slice_get (actions_of (chart_of plant p)) a ≡ Some (Boolean v) → slice_get (actions_of (chart_of plant p)) b ≡ Some (Boolean w)
    → number_of plant p w ≡ Some i → number_of plant p v ≢ Some i
other_number plant p a b i v w ne at_a at_b of_w of_v =
    let same : v ≡ w =
    one_variable (length plant.globals) (first_local plant p) (length (instance_locals plant p)) i (first_behind plant p) v w of_v of_w in
    ne (one_action (chart_of plant p) b a v
    (at_b ∙ ap (λ (x : Variable). Some (Boolean x)) (sym same)) at_a)
