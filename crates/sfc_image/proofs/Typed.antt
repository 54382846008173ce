-- Variables have values of their types.
use Rattle.std.proofs.Common.{◌≡◌, ℕ, zero, suc, ◌==◌, arith, ℤ, pos, Bool, true, false, cond, List, [], ◌∷◌, All, slice_get}
use Rattle.std.proofs.Common.{Option, Some, None, unwrap_or, IfSome, filter_map, refl, ap, subst}
use Rattle.std.proofs.lemmas.Bool.Decides.{nat_tests}
use Rattle.std.proofs.lemmas.List.Elements.{All-nil, All-cons, All-head, All-tail}
use Rattle.std.specs.List.{cons_option}
use Rattle.std.specs.Prelude.{IsTrue, slice_index_or}
use Rattle.std.specs.Option.{option_map}
use Rattle.sfc_base.specs.Values.{is_in_range}
use Rattle.sfc_base.specs.declared.var_type.VarType.TheVariants as types
use Rattle.sfc_base.specs.declared.ids.ProgId.{ProgId}
use Rattle.sfc_base.specs.declared.references.Variable.{Variable}
use Rattle.sfc_base.specs.declared.value.Value.{Value}
use Rattle.sfc_base.specs.declared.var_type.VarType.{VarType}
use Rattle.sfc_plant.specs.declared.variable.Variable as declared
use Rattle.sfc_plant.specs.Plants.{PlantData}
use Rattle.sfc_plant.specs.Image.{image_variables}
use Rattle.sfc_expr.specs.Environment.{Environment}
use Rattle.sfc_expr.specs.Types.{IsOf, GivesTypes}
use Rattle.sfc_image.specs.Changes.{Change, Stored, Forced, Released, Reset}
use Rattle.sfc_image.specs.Values.{initial_in, type_in, initial_of, type_of_variable, is_local_of}
use Rattle.sfc_image.specs.Values.{latest_write, stored_value, forced_value, value_of}
use Rattle.sfc_image.specs.Environments.{Moment, number_of, read_at, force_at, environment_of}
use Rattle.sfc_image.specs.Bodies.{stored_to, variables_of, left_in, left_by}
use Rattle.sfc_image.specs.Types.{BeginsTyped, GivesType, AreTimes, type_at, types_of}

equal_numbers : (m n : ℕ) → (m == n) ≡ true → m ≡ n
equal_numbers m n e = grind (arith, nat_tests)

initial_typed : (variables : List declared.Variable) (i : ℕ)
    → All (λ (variable : declared.Variable). IsOf variable.var_type variable.initial) variables
    → IsOf (type_in (slice_get variables i)) (initial_in (slice_get variables i))
initial_typed [] i all = (refl, refl)
initial_typed (x ∷ xs) zero all = All-head (λ (variable : declared.Variable). IsOf variable.var_type variable.initial) x xs all
initial_typed (x ∷ xs) (suc i) all =
    initial_typed xs i (All-tail (λ (variable : declared.Variable). IsOf variable.var_type variable.initial) x xs all)

-- what was chosen by the number of a variable is of its type
chosen_typed : (P : Value → Type 0) (b : Bool) (x : Value) (other : Option Value) → (b ≡ true → P x) → IfSome other P
    → IfSome (cond b (Some x) other) P
chosen_typed P true x other here there = here refl
chosen_typed P false x other here there = there

left_typed : (P : Value → Type 0) (b : Bool) (other : Option Value) → IfSome other P → IfSome (cond b None other) P
left_typed P true other there = tt
left_typed P false other there = there

either_typed : (P : Value → Type 0) (first : Option Value) (second : Value) → IfSome first P → P second → P (unwrap_or first second)
either_typed P (Some x) second f s = f
either_typed P None second f s = s

module _ (plant : PlantData) where
  abbrev IsTyped : ℕ → Value → Type 0
  IsTyped i x = IsOf (type_of_variable plant i) x

  begins : (i : ℕ) → BeginsTyped plant → IsTyped i (initial_of plant i)
  begins i typed = initial_typed (image_variables plant) i typed

  written_typed : (changes : List Change) (i : ℕ) → BeginsTyped plant → All (GivesType plant) changes
      → IfSome (latest_write plant changes i) (IsTyped i)
  written_typed [] i typed all = tt
  written_typed (Stored id v ∷ changes) i typed all =
      let here = All-head (GivesType plant) (Stored id v) changes all in
      chosen_typed (IsTyped i) (id.0 == i) v (latest_write plant changes i) (λ e. subst (λ n. IsTyped n v) (equal_numbers id.0 i e) here)
      (written_typed changes i typed (All-tail (GivesType plant) (Stored id v) changes all))
  written_typed (Forced id v ∷ changes) i typed all =
      written_typed changes i typed (All-tail (GivesType plant) (Forced id v) changes all)
  written_typed (Released id ∷ changes) i typed all =
      written_typed changes i typed (All-tail (GivesType plant) (Released id) changes all)
  written_typed (Reset p ∷ changes) i typed all =
      chosen_typed (IsTyped i) (is_local_of plant p i) (initial_of plant i) (latest_write plant changes i) (λ e. begins i typed)
      (written_typed changes i typed (All-tail (GivesType plant) (Reset p) changes all))

  pub stored_typed : (changes : List Change) (i : ℕ) → BeginsTyped plant → All (GivesType plant) changes
      → IsTyped i (stored_value plant changes i)
  stored_typed changes i typed all =
      either_typed (IsTyped i) (latest_write plant changes i) (initial_of plant i) (written_typed changes i typed all) (begins i typed)

  pub forced_typed : (changes : List Change) (i : ℕ) → All (GivesType plant) changes → IfSome (forced_value changes i) (IsTyped i)
  forced_typed [] i all = tt
  forced_typed (Stored id v ∷ changes) i all = forced_typed changes i (All-tail (GivesType plant) (Stored id v) changes all)
  forced_typed (Forced id v ∷ changes) i all =
      let here = All-head (GivesType plant) (Forced id v) changes all in
      chosen_typed (IsTyped i) (id.0 == i) v (forced_value changes i) (λ e. subst (λ n. IsTyped n v) (equal_numbers id.0 i e) here)
      (forced_typed changes i (All-tail (GivesType plant) (Forced id v) changes all))
  forced_typed (Released id ∷ changes) i all =
      left_typed (IsTyped i) (id.0 == i) (forced_value changes i)
      (forced_typed changes i (All-tail (GivesType plant) (Released id) changes all))
  forced_typed (Reset p ∷ changes) i all = forced_typed changes i (All-tail (GivesType plant) (Reset p) changes all)

  pub read_typed : (changes : List Change) (i : ℕ) → BeginsTyped plant → All (GivesType plant) changes
      → IsTyped i (value_of plant changes i)
  read_typed changes i typed all =
      either_typed (IsTyped i) (forced_value changes i) (stored_value plant changes i) (forced_typed changes i all)
      (stored_typed changes i typed all)

  -- ---- what an instance's program reads and leaves

  some_same : (t u : VarType) → Some t ≡ Some u → t ≡ u
  some_same t u e = cc

  stored_at_typed : (changes : List Change) (number : Option ℕ) (t : VarType) → BeginsTyped plant → All (GivesType plant) changes
      → type_at plant number ≡ Some t → IsOf t (read_at (stored_value plant changes) number)
  stored_at_typed changes None t typed all e = absurd cc
  stored_at_typed changes (Some i) t typed all e =
      subst (λ u. IsOf u (stored_value plant changes i)) (some_same (type_of_variable plant i) t e) (stored_typed changes i typed all)

  forced_at_typed : (changes : List Change) (number : Option ℕ) (t : VarType) → All (GivesType plant) changes
      → type_at plant number ≡ Some t → IfSome (force_at (forced_value changes) number) (IsOf t)
  forced_at_typed changes None t all e = absurd cc
  forced_at_typed changes (Some i) t all e =
      subst (λ u. IfSome (forced_value changes i) (IsOf u)) (some_same (type_of_variable plant i) t e) (forced_typed changes i all)

  time_typed : (times : List ℤ) (i : ℕ) → AreTimes times → IsTrue (is_in_range types.Time (slice_index_or times i (pos 0)))
  time_typed [] i all = refl
  time_typed (t ∷ times) zero all = All-head (λ (x : ℤ). IsTrue (is_in_range types.Time x)) t times all
  time_typed (t ∷ times) (suc i) all = time_typed times i (All-tail (λ (x : ℤ). IsTrue (is_in_range types.Time x)) t times all)

  pub environment_typed : (changes : List Change) (p : ProgId) (moment : Moment) → BeginsTyped plant → All (GivesType plant) changes
      → AreTimes moment.times → GivesTypes (types_of plant p) (environment_of plant changes p moment)
  environment_typed changes p moment typed all times = record {
    stored = λ v t e. stored_at_typed changes (number_of plant p v) t typed all e;
    forced = λ v t e. forced_at_typed changes (number_of plant p v) t all e;
    times = λ s. time_typed moment.times s.0 times;
  }

  one_more : (P : Change → Type 0) (picked : Option Change) (rest : List Change) → IfSome picked P → All P rest
      → All P (cons_option picked rest)
  one_more P None rest h all = all
  one_more P (Some change) rest h all = All-cons P change rest h all

  picked_all : (P : Change → Type 0) (f : Variable → Option Change) (vs : List Variable) → ((v : Variable) → IfSome (f v) P)
      → All P (filter_map f vs)
  picked_all P f [] each = All-nil P
  picked_all P f (v ∷ vs) each = one_more P (f v) (filter_map f vs) (each v) (picked_all P f vs each)

  module _ (p : ProgId) (env : Environment) (gives : GivesTypes (types_of plant p) env) where
    left_one : (v : Variable) → IfSome (left_in plant p env v) (GivesType plant)
    left_one v = at (number_of plant p v) refl
      where
        at : (number : Option ℕ) → number_of plant p v ≡ number
            → IfSome (option_map (stored_to (env.stored_at v)) number) (GivesType plant)
        at None e = tt
        at (Some i) e = gives.stored v (type_of_variable plant i) (ap (type_at plant) e)

    pub left_typed_by : All (GivesType plant) (left_by plant p env)
    left_typed_by = picked_all (GivesType plant) (left_in plant p env) (variables_of plant p) left_one
