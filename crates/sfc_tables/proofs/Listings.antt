-- The list of actions, and how long it is.
use Rattle.std.proofs.Common.{◌≡◌, inl, inr, ℕ, ◌+◌, ◌||◌, ◌&&◌, not, Bool, true, false}
use Rattle.std.proofs.Common.{cond, List, [], ◌∷◌, ◌++◌, length, drop, get_or, refl, sym, ◌∙◌, ap}
use mathlib.Core.Logic.{◌⊎◌}
use Rattle.std.specs.Prelude.{map, filter, slice_get, Some}
use Rattle.std.specs.List.{list_any}
use Rattle.std.proofs.lemmas.List.{append_assoc, append-nil, length-append, length-map, drop_more}
use Rattle.std.proofs.lemmas.List.Elements.{filter_map-append}
use Rattle.std.proofs.lemmas.List.FromFn.{length-map-range_with_len}
use Rattle.std.proofs.lemmas.List.Sums.{fold-append}
use Rattle.std.proofs.lemmas.Option.{slice_get_within, get_or_from_slice_get}
use Rattle.indexmap.specs.IndexSet.{insert_key}
use Rattle.sfc_base.specs.declared.references.Variable.{Variable}
use Rattle.sfc_base.specs.declared.ids.ActionId.{ActionId}
use Rattle.sfc_plant.specs.declared.association.Association.{Association}
use Rattle.sfc_plant.specs.declared.association.Target.TheVariants as target
use Rattle.sfc_plant.specs.declared.chart.Step.{Step}
use Rattle.sfc_tables.specs.Actions.{same_variable, distinct, boolean_of, booleans_of, associations_in, declared_actions}
use Rattle.sfc_tables.specs.Private.Listing.{with_booleans, listed}
use Rattle.sfc_tables.specs.Private.SameVariables.{same_along}

-- ---- one step after another

pub with_step : (known : List Variable) (associations : List Association) (steps : List Step)
    → with_booleans known (booleans_of (associations ++ associations_in steps))
    ≡ with_booleans (with_booleans known (booleans_of associations)) (booleans_of (associations_in steps))
with_step known associations steps =
    ap (with_booleans known) (filter_map-append (λ association. boolean_of association.target) associations (associations_in steps))
    ∙ fold-append (insert_key same_variable) known (booleans_of associations) (booleans_of (associations_in steps))

pub next_variable : (vs : List Variable) (i : ℕ) (v : Variable) → slice_get vs i ≡ Some v → drop i vs ≡ v ∷ drop (i + 1) vs
next_variable vs i v e =
    let at : get_or vs i v ≡ v = get_or_from_slice_get vs i v v e in
    drop_more vs i v (slice_get_within vs i v e) ∙ ap (λ x. x ∷ drop (i + 1) vs) at

-- ---- each variable where it stands first

bool_cases : (b : Bool) → (b ≡ true) ⊎ (b ≡ false)
bool_cases true = inl refl
bool_cases false = inr refl

-- a filter after a weaker one
filter-weaker : (p q : Variable → Bool) (vs : List Variable) → ((v : Variable) → q v ≡ false → p v ≡ false)
    → filter p (filter q vs) ≡ filter p vs
filter-weaker p q [] w = refl
filter-weaker p q (v ∷ vs) w = elim (bool_cases (q v)) [
  | inl e ↦ rw e (ap (λ r. cond (p v) (v ∷ r) r) (filter-weaker p q vs w))
  | inr e ↦ (let no : p v ≡ false = w v e in rw (e, no) (filter-weaker p q vs w))
]

and_false : (b : Bool) → (b && false) ≡ false
and_false true = refl
and_false false = refl

filter-both : (p q r : Variable → Bool) (vs : List Variable) → ((v : Variable) → r v ≡ (p v && q v)) → filter r vs ≡ filter p (filter q vs)
filter-both p q r [] e = refl
filter-both p q r (v ∷ vs) e = elim (bool_cases (q v)) [
  | inl y ↦ elim (bool_cases (p v)) [
    | inl x ↦ (let both : r v ≡ true = e v ∙ rw (x, y) refl in rw (both, y, x) (ap (λ t. v ∷ t) (filter-both p q r vs e)))
    | inr x ↦ (let both : r v ≡ false = e v ∙ rw x refl in rw (both, y, x) (filter-both p q r vs e))
  ]
  | inr y ↦ (let both : r v ≡ false = e v ∙ rw y (and_false (p v)) in rw (both, y) (filter-both p q r vs e))
]

not_false : (b : Bool) → not b ≡ false → b ≡ true
not_false true e = refl
not_false false e = absurd (let bad : true ≡ false = e in cc)

-- the variable is among these
abbrev is_known : List Variable → Variable → Bool
is_known known v = list_any (same_variable v) known

known_same : (known : List Variable) (v w : Variable) → same_variable v w ≡ true → is_known known v ≡ is_known known w
known_same [] v w e = refl
known_same (k ∷ known) v w e = rw (same_along v w k e, known_same known v w e) refl

or_false : (b : Bool) → (b || false) ≡ b
or_false true = refl
or_false false = refl

or_assoc : (x y z : Bool) → (x || (y || z)) ≡ ((x || y) || z)
or_assoc true y z = refl
or_assoc false y z = refl

known-append : (known : List Variable) (v o : Variable) → is_known (known ++ v ∷ []) o ≡ (is_known known o || same_variable o v)
known-append [] v o = or_false (same_variable o v)
known-append (k ∷ known) v o = ap (λ r. same_variable o k || r) (known-append known v o)
    ∙ or_assoc (same_variable o k) (is_known known o) (same_variable o v)

new_and : (x y : Bool) → not (x || y) ≡ (not x && not y)
new_and true y = refl
new_and false y = refl

abbrev new_to : List Variable → Variable → Bool
new_to known o = not (is_known known o)

abbrev other_than : Variable → Variable → Bool
other_than v o = not (same_variable o v)

known_is : (known vs : List Variable) → with_booleans known vs ≡ known ++ filter (new_to known) (distinct vs)
known_is known [] = sym (append-nil known)
known_is known (v ∷ vs) = elim (bool_cases (is_known known v)) [
  | inl e ↦ (
      let weaker : filter (new_to known) (filter (other_than v) (distinct vs)) ≡ filter (new_to known) (distinct vs) =
      filter-weaker (new_to known) (other_than v) (distinct vs)
      (λ o off. ap not (known_same known o v (not_false (same_variable o v) off) ∙ e)) in
      rw e (known_is known vs ∙ ap (λ r. known ++ r) (sym weaker)))
  | inr e ↦ (
      let split : filter (new_to (known ++ v ∷ [])) (distinct vs) ≡ filter (new_to known) (filter (other_than v) (distinct vs)) =
      filter-both (new_to known) (other_than v) (new_to (known ++ v ∷ [])) (distinct vs)
      (λ o. ap not (known-append known v o) ∙ new_and (is_known known o) (same_variable o v)) in
      rw e (known_is (known ++ v ∷ []) vs ∙ ap (λ r. (known ++ v ∷ []) ++ r) split
      ∙ append_assoc known (v ∷ []) (filter (new_to known) (filter (other_than v) (distinct vs)))))
]

filter-all : (p : Variable → Bool) (vs : List Variable) → ((v : Variable) → p v ≡ true) → filter p vs ≡ vs
filter-all p [] all = refl
filter-all p (v ∷ vs) all = let yes : p v ≡ true = all v in rw yes (ap (λ r. v ∷ r) (filter-all p vs all))

pub distinct_is : (vs : List Variable) → with_booleans [] vs ≡ distinct vs
distinct_is vs = known_is [] vs ∙ filter-all (new_to []) (distinct vs) (λ v. refl)

-- ---- how many

-- ---- all actions

pub listed_long : (booleans : List Variable) (n : ℕ) → length (listed booleans n) ≡ length booleans + n
listed_long booleans n =
    length-append (map (λ v. target.Boolean v) booleans) (declared_actions n)
    ∙ (λ i. length-map booleans (λ v. target.Boolean v) i + length-map-range_with_len
    (λ (k : ℕ). let id : ActionId = record { 0 = k } in target.Declared id) 0 n i)
