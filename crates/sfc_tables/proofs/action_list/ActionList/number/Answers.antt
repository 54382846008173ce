use Rattle.std.proofs.Common.{◌≡◌, ◌+◌, ◌<◌, ℕ, List, length, ◌∙◌, sym, ap, subst, arith, refl}
use Rattle.std.specs.Prelude.{Option, Some, IsSome, position}
use Rattle.std.specs.List.{position_or_len}
use Rattle.sfc_base.specs.declared.references.Variable.{Variable}
use Rattle.sfc_plant.specs.declared.association.Target.{Target}
use Rattle.sfc_plant.specs.declared.association.Target.TheVariants as target
use Rattle.sfc_tables.specs.Actions.{same_variable, same_target}
use Rattle.sfc_tables.specs.Private.Listing.{listed}
use Rattle.sfc_tables.proofs.Places.{place_boolean, place_declared, position_found}
use Rattle.sfc_tables.proofs.action_list.ActionList.number.Goals as goal

-- the action's place in what the list keeps
within : (actions : List Target) (booleans : List Variable) (n : ℕ) (t u : Target) → actions ≡ listed booleans n → t ≡ u
    → position_or_len (same_target t) actions < length actions
    → position_or_len (same_target u) (listed booleans n) < length (listed booleans n)
within actions booleans n t u e f lt =
    subst (λ (x : Target). position_or_len (same_target x) (listed booleans n) < length (listed booleans n)) f
    (subst (λ (xs : List Target). position_or_len (same_target t) xs < length xs) e lt)

found : (booleans : List Variable) (v w : Variable) (r : Option ℕ) → position_or_len (same_variable v) booleans < length booleans → w ≡ v
    → r ≡ position (same_variable w) booleans → r ≡ Some (position_or_len (same_variable v) booleans)
found booleans v w r lt e is = is ∙ ap (λ x. position (same_variable x) booleans) e ∙ position_found booleans v lt

pub unwrap-place-requires : goal.unwrap-place-requires
unwrap-place-requires c =
    let keys = c.self.inside.booleans.keys in
    let v = c.in-Boolean.variable in
    let all = sym c.self.view_is ∙ c.self.invariant.all in
    let p = place_boolean keys c.self.inside.declared v
    (within c.args.self.now keys c.self.inside.declared c.args.target (target.Boolean v) all c.in-Boolean.is c.requires) in
    let is = found keys v c.new.result c.get_index_of.result p.0 c.new.ensures c.get_index_of.ensures.index in
    subst (λ (o : Option ℕ). IsSome o) (sym is) refl

pub overflow_add-place : goal.overflow_add-place
overflow_add-place c =
    let keys = c.self.inside.booleans.keys in
    let id = c.in-Declared.id in
    let all = sym c.self.view_is ∙ c.self.invariant.all in
    let lt = within c.args.self.now keys c.self.inside.declared c.args.target (target.Declared id) all c.in-Declared.is c.requires in
    omega (
      arith,
      place_declared keys c.self.inside.declared id lt,
      lt,
      c.self.invariant.few,
      ap length c.self.invariant.all,
      c.len.ensures.len,
    )

pub returns-in-Boolean : goal.returns-in-Boolean
returns-in-Boolean c =
    let keys = c.self.inside.booleans.keys in
    let v = c.in-Boolean.variable in
    let all = sym c.self.view_is ∙ c.self.invariant.all in
    let p = place_boolean keys c.self.inside.declared v
    (within c.args.self.now keys c.self.inside.declared c.args.target (target.Boolean v) all c.in-Boolean.is c.requires) in
    let is = found keys v c.new.result c.get_index_of.result p.0 c.new.ensures c.get_index_of.ensures.index in
    let one : Some c.unwrap-place.result ≡ Some (position_or_len (same_variable v) keys) = sym c.unwrap-place.ensures ∙ is in
    let place : c.unwrap-place.result ≡ position_or_len (same_variable v) keys = cc in
    let here : c.unwrap-place.result ≡ position_or_len (same_target c.args.target) c.args.self.now =
    place ∙ sym p.1 ∙ (λ i. position_or_len (same_target (sym c.in-Boolean.is i)) (sym all i)) in
    λ i. record { 0 = here i }

pub returns-in-Declared : goal.returns-in-Declared
returns-in-Declared c =
    let keys = c.self.inside.booleans.keys in
    let id = c.in-Declared.id in
    let all = sym c.self.view_is ∙ c.self.invariant.all in
    let lt = within c.args.self.now keys c.self.inside.declared c.args.target (target.Declared id) all c.in-Declared.is c.requires in
    let here : c.len.result + id.0 ≡ position_or_len (same_target c.args.target) c.args.self.now =
    ap (λ n. n + id.0) c.len.ensures.len ∙ sym (place_declared keys c.self.inside.declared id lt)
    ∙ (λ i. position_or_len (same_target (sym c.in-Declared.is i)) (sym all i)) in
    λ i. record { 0 = here i }
