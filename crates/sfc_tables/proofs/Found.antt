-- Each association's action is listed.
use Rattle.std.proofs.Common.{◌≡◌, ℕ, zero, suc, ◌+◌, ◌<◌, ◌≤◌, ◌==◌, ◌||◌, not, Bool, true, false, cond}
use Rattle.std.proofs.Common.{List, [], ◌∷◌, ◌++◌, length, get_or, refl, sym, ◌∙◌, ap, subst, inl, inr, arith}
use mathlib.Core.Logic.{◌⊎◌}
use Rattle.std.specs.Prelude.{map, filter, All, Some}
use Rattle.std.specs.List.{list_any, position_or_len, range_with_len, cons_option}
use Rattle.std.proofs.lemmas.Bool.Decides.{nat_tests}
use Rattle.std.proofs.lemmas.List.{append_assoc, length-append, length-map}
use Rattle.std.proofs.lemmas.List.Elements.{All-nil, All-cons, filter_map-append}
use Rattle.sfc_base.specs.declared.references.Variable.{Variable}
use Rattle.sfc_base.specs.declared.ids.ActionId.{ActionId}
use Rattle.sfc_plant.specs.declared.association.Association.{Association}
use Rattle.sfc_plant.specs.declared.association.Target.{Target}
use Rattle.sfc_plant.specs.declared.association.Target.TheVariants as target
use Rattle.sfc_plant.specs.declared.chart.Step.{Step}
use Rattle.sfc_plant.specs.declared.chart.Chart.{Chart}
use Rattle.sfc_plant.specs.Chart.{Counts, IsTarget, IsAssociation}
use Rattle.sfc_tables.specs.Actions.{same_variable, same_target, distinct, boolean_of, booleans_of}
use Rattle.sfc_tables.specs.Actions.{associations_in, declared_actions, actions_of, number_of, boolean_actions}
use Rattle.sfc_tables.specs.Private.Listing.{listed}
use Rattle.sfc_tables.specs.Private.SameVariables.{same_variable_equiv, same_along}
use Rattle.sfc_tables.proofs.Places.{past_booleans, declared}

bool_cases : (b : Bool) → (b ≡ true) ⊎ (b ≡ false)
bool_cases true = inl refl
bool_cases false = inr refl

abbrev is_known : List Variable → Variable → Bool
is_known known v = list_any (same_variable v) known

or_true : (b : Bool) → (b || true) ≡ true
or_true true = refl
or_true false = refl

known_mid : (xs : List Variable) (v : Variable) (ys : List Variable) → is_known (xs ++ v ∷ ys) v ≡ true
known_mid [] v ys = rw (same_variable_equiv.refl v) refl
known_mid (x ∷ xs) v ys = ap (λ r. same_variable v x || r) (known_mid xs v ys) ∙ or_true (same_variable v x)

-- the variable of this association, if it is an action, is among those of all these
abbrev Known : List Association → Association → Type 0
Known whole association = (v : Variable) → boolean_of association.target ≡ Some v → is_known (booleans_of whole) v ≡ true

known_here : (before : List Association) (association : Association) (after : List Association)
    → Known (before ++ association ∷ after) association
known_here before association after v e =
    let both = filter_map-append (λ (a : Association). boolean_of a.target) before (association ∷ after) in
    let at : booleans_of (association ∷ after) ≡ v ∷ booleans_of after = ap (λ o. cons_option o (booleans_of after)) e in
    ap (λ l. is_known l v) (both ∙ ap (λ l. booleans_of before ++ l) at) ∙ known_mid (booleans_of before) v (booleans_of after)

known_block : (before block after : List Association) → All (Known (before ++ (block ++ after))) block
known_block before [] after = All-nil (Known (before ++ after))
known_block before (a ∷ block) after =
    All-cons (Known (before ++ (a ∷ block ++ after))) a block (known_here before a (block ++ after))
    (subst (λ (whole : List Association). All (Known whole) block) (append_assoc before (a ∷ []) (block ++ after))
    (known_block (before ++ a ∷ []) block after))

abbrev AllKnown : List Association → Step → Type 0
AllKnown whole step = All (Known whole) step.associations

known_steps : (before : List Association) (steps : List Step) → All (AllKnown (before ++ associations_in steps)) steps
known_steps before [] = All-nil (AllKnown (before ++ []))
known_steps before (step ∷ steps) =
    All-cons (AllKnown (before ++ (step.associations ++ associations_in steps))) step steps
    (known_block before step.associations (associations_in steps))
    (subst (λ (whole : List Association). All (AllKnown whole) steps) (append_assoc before step.associations (associations_in steps))
    (known_steps (before ++ step.associations) steps))

-- ---- each once is still each

known_filtered : (w v : Variable) (xs : List Variable) → same_variable v w ≡ false
    → is_known (filter (λ o. not (same_variable o w)) xs) v ≡ is_known xs v
known_filtered w v [] differs = refl
known_filtered w v (x ∷ xs) differs = elim (bool_cases (same_variable x w)) [
  | inl e ↦ (
      let apart : same_variable v x ≡ false = elim (bool_cases (same_variable v x)) [
        | inl alike ↦ (let a : same_variable v w ≡ same_variable x w = same_along v x w alike in let bad : false ≡ true = sym differs ∙ a
            ∙ e in absurd cc)
        | inr other ↦ other
      ] in
      rw (e, apart) (known_filtered w v xs differs))
  | inr e ↦ rw e (ap (λ r. same_variable v x || r) (known_filtered w v xs differs))
]

known_distinct : (vs : List Variable) (v : Variable) → is_known vs v ≡ true → is_known (distinct vs) v ≡ true
known_distinct [] v e = e
known_distinct (w ∷ vs) v e = elim (bool_cases (same_variable v w)) [
  | inl alike ↦ rw alike refl
  | inr differs ↦ (
      let rest : is_known vs v ≡ true = rw differs at e in
      rw differs (known_filtered w v (distinct vs) differs ∙ known_distinct vs v rest))
]

-- ---- a known variable has a number, and so has a declared action

step_place : (b : Bool) (p m : ℕ) → (b ≡ false → p < m) → cond (not b) (1 + p) 0 < suc m
step_place true p m rest = omega arith
step_place false p m rest = let r = rest refl in omega arith

boolean_place : (vs : List Variable) (n : ℕ) (v : Variable) → is_known vs v ≡ true
    → position_or_len (same_target (target.Boolean v)) (listed vs n) < length (listed vs n)
boolean_place [] n v e = absurd (let bad : false ≡ true = e in cc)
boolean_place (w ∷ vs) n v e =
    step_place (same_variable v w) (position_or_len (same_target (target.Boolean v)) (listed vs n)) (length (listed vs n))
    (λ differs. let rest : is_known vs v ≡ true = rw differs at e in boolean_place vs n v rest)

declared_place : (n a : ℕ) (id : ActionId) → a ≤ id.0 → id.0 < a + n
    → position_or_len (same_target (target.Declared id)) (map declared (range_with_len a n)) < length (map declared (range_with_len a n))
declared_place zero a id le lt = absurd (omega arith)
declared_place (suc n) a id le lt =
    step_place ((id.0 == a)) (position_or_len (same_target (target.Declared id)) (map declared (range_with_len (a + 1) n)))
    (length (map declared (range_with_len (a + 1) n)))
    (λ differs. declared_place n (a + 1) id (grind (arith, nat_tests)) (omega arith))

past_place : (vs : List Variable) (n : ℕ) (id : ActionId) → id.0 < n
    → position_or_len (same_target (target.Declared id)) (listed vs n) < length (listed vs n)
past_place vs n id lt =
    let skip = past_booleans vs (declared_actions n) id in
    let here = declared_place n 0 id (omega arith) (omega arith) in
    let long = length-append (map (λ v. target.Boolean v) vs) (declared_actions n) in
    let first = length-map vs (λ v. target.Boolean v) in
    omega arith

abbrev Found : Chart → Association → Type 0
Found chart association = (number_of (actions_of chart) association.target).0 < length (actions_of chart)

found : (counts : Counts) (chart : Chart) (t : Target) → IsTarget counts (length chart.actions) t
    → ((v : Variable) → boolean_of t ≡ Some v → is_known (booleans_of (associations_in chart.steps)) v ≡ true)
    → (number_of (actions_of chart) t).0 < length (actions_of chart)
found counts chart (target.Boolean v) sound known =
    boolean_place (boolean_actions chart) (length chart.actions) v
    (known_distinct (booleans_of (associations_in chart.steps)) v (known v refl))
found counts chart (target.Declared id) sound known = past_place (boolean_actions chart) (length chart.actions) id sound

pub all_found : (counts : Counts) (chart : Chart)
    → All (λ (step : Step). All (IsAssociation counts (length chart.actions)) step.associations) chart.steps
    → All (λ (step : Step). All (Found chart) step.associations) chart.steps
all_found counts chart sound k d lt j e less =
    found counts chart (get_or (get_or chart.steps k d).associations j e).target (sound k d lt j e less).target
    (known_steps [] chart.steps k d lt j e less)
