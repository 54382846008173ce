-- What is found among the variables of an instance has in its plant the type with which it was found.
use Rattle.std.proofs.Common.{◌≡◌, ℕ, zero, suc, ◌+◌, ◌<◌, nat_lt, cond, true, List, [], ◌∷◌, ◌++◌, length, flat_map, take}
use Rattle.std.proofs.Common.{Option, Some, None, slice_get, refl, sym, ap, ◌∙◌, arith, rules}
use Rattle.std.proofs.lemmas.List.{length-append}
use Rattle.std.proofs.lemmas.Option.{slice_get_within}
use Rattle.sfc_base.specs.declared.ids.ProgId.{ProgId}
use Rattle.sfc_base.specs.declared.var_type.VarType.{VarType}
use Rattle.sfc_base.specs.declared.references.Variable as expr
use Rattle.sfc_base.specs.declared.references.Variable.TheVariants.{Global, Local}
use Rattle.sfc_plant.specs.declared.variable.Variable.{Variable}
use Rattle.sfc_plant.specs.declared.instance.Instance.{Instance}
use Rattle.sfc_plant.specs.Plants.{PlantData}
use Rattle.sfc_plant.specs.Image.{locals_of, image_variables}
use Rattle.sfc_plant.specs.Finding.{first_local, locals_at, instance_locals}
use Rattle.sfc_plant.specs.VariableNames.{variable_place, with_type, typed_at, or_else, global_named, local_named, variable_named}
use Rattle.sfc_plant.proofs.Images.{get_front, get_behind}
use Rattle.sfc_output.specs.sfc_image.Values.{type_in}
use Rattle.sfc_output.specs.sfc_image.Types.{type_at, types_of}

if_less : {A : Type 0} (i n : ℕ) (x y : A) → i < n → cond (nat_lt i n) x y ≡ x
if_less i n x y lt = let is : nat_lt i n ≡ true = search (rules, arith) in ap (λ b. cond b x y) is

-- an element behind what the lists before it give
flat_at : {A B : Type 0} (f : A → List B) (xs : List A) (k : ℕ) (x : A) (n : ℕ) → slice_get xs k ≡ Some x → n < length (f x)
    → slice_get (flat_map f xs) (length (flat_map f (take k xs)) + n) ≡ slice_get (f x) n
flat_at f [] k x n e lt = absurd cc
flat_at f (y ∷ xs) zero x n e lt =
    let same : y ≡ x = cc in
    let there = ap (λ z. length (f z)) same in
    let plain : 0 + n ≡ n = omega arith in
    ap (slice_get (f y ++ flat_map f xs)) plain
    ∙ get_front (f y) (flat_map f xs) n (omega (arith, there, lt)) ∙ ap (λ z. slice_get (f z) n) same
flat_at f (y ∷ xs) (suc k) x n e lt =
    let before : ℕ = length (flat_map f (take k xs)) in
    let long = length-append (f y) (flat_map f (take k xs)) in
    get_behind (f y) (flat_map f xs) (length (f y ++ flat_map f (take k xs)) + n) (omega (arith, long))
    ∙ ap (slice_get (flat_map f xs)) (omega (arith, long)) ∙ flat_at f xs k x n e lt

module _ (plant : PlantData) (p : ProgId) where
  -- ---- globals

  global_type : (i : ℕ) (w : Variable) → slice_get plant.globals i ≡ Some w
      → types_of plant p (Global (record { 0 = i })) ≡ Some w.var_type
  global_type i w e =
      let lt : i < length plant.globals = slice_get_within plant.globals i w e in
      let at : slice_get (image_variables plant) i ≡ Some w =
      get_front plant.globals (flat_map (locals_of plant.types) plant.instances) i lt ∙ e in
      ap (type_at plant) (if_less i (length plant.globals) (Some i) None lt) ∙ ap (λ o. Some (type_in o)) at

  -- ---- locals

  behind : (i : ℕ) (w : Variable) (o : Option Instance) → slice_get plant.instances p.0 ≡ o
      → slice_get (locals_at plant.types o) i ≡ Some w → slice_get (image_variables plant) (first_local plant p + i) ≡ Some w
  behind i w None at e = absurd cc
  behind i w (Some instance) at e =
      let before = flat_map (locals_of plant.types) (take p.0 plant.instances) in
      let long = length-append plant.globals before in
      let lt : i < length (locals_of plant.types instance) = slice_get_within (locals_of plant.types instance) i w e in
      get_behind plant.globals (flat_map (locals_of plant.types) plant.instances) (first_local plant p + i) (omega (arith, long))
      ∙ ap (slice_get (flat_map (locals_of plant.types) plant.instances)) (omega (arith, long))
      ∙ flat_at (locals_of plant.types) plant.instances p.0 instance i at lt ∙ e

  local_type : (i : ℕ) (w : Variable) → slice_get (instance_locals plant p) i ≡ Some w
      → types_of plant p (Local (record { 0 = i })) ≡ Some w.var_type
  local_type i w e =
      let lt : i < length (instance_locals plant p) = slice_get_within (instance_locals plant p) i w e in
      let at : slice_get (image_variables plant) (first_local plant p + i) ≡ Some w =
      behind i w (slice_get plant.instances p.0) refl e in
      ap (type_at plant) (if_less i (length (instance_locals plant p)) (Some (first_local plant p + i)) None lt)
      ∙ ap (λ o. Some (type_in o)) at

-- ---- names

-- a place with its type
module _ (declared : expr.Variable → Option VarType) (id : ℕ → expr.Variable) (vs : List Variable)
    (says : (i : ℕ) (w : Variable) → slice_get vs i ≡ Some w → declared (id i) ≡ Some w.var_type) where
  there : (i : ℕ) (at : Option Variable) (v : expr.Variable × VarType) → slice_get vs i ≡ at → with_type id i at ≡ Some v
      → declared v.0 ≡ Some v.1
  there i (Some w) v is e =
      let same : id i ≡ v.0 = cc in
      let type : w.var_type ≡ v.1 = cc in
      ap declared (sym same) ∙ says i w is ∙ ap (λ u. Some u) type
  there i None v is e = absurd cc

  among : (place : Option ℕ) (v : expr.Variable × VarType) → typed_at id vs place ≡ Some v → declared v.0 ≡ Some v.1
  among (Some i) v e = there i (slice_get vs i) v refl e
  among None v e = absurd cc

either : (P : expr.Variable × VarType → Type 0) (a b : Option (expr.Variable × VarType))
    → ((v : expr.Variable × VarType) → a ≡ Some v → P v) → ((v : expr.Variable × VarType) → b ≡ Some v → P v)
    → (v : expr.Variable × VarType) → or_else a b ≡ Some v → P v
either P (Some w) b first second v e = first v e
either P None b first second v e = second v e

pub named_type : (plant : PlantData) (p : ProgId) (name : List ℕ) (v : expr.Variable × VarType)
    → variable_named (instance_locals plant p) plant.globals name ≡ Some v → types_of plant p v.0 ≡ Some v.1
named_type plant p name =
    either (λ v. types_of plant p v.0 ≡ Some v.1) (local_named (instance_locals plant p) name) (global_named plant.globals name)
    (among (types_of plant p) (λ i. Local (record { 0 = i })) (instance_locals plant p) (local_type plant p)
    (variable_place (instance_locals plant p) name))
    (among (types_of plant p) (λ i. Global (record { 0 = i })) plant.globals (global_type plant p)
    (variable_place plant.globals name))
