-- What is kept of the changes is their past, and the past goes on by one change.
use denote.Struct.Props.{props}
use Rattle.std.proofs.Common.{◌≡◌, inl, inr, ℕ, zero, suc, ◌+◌, ◌<◌, ◌≤◌, ◌==◌, arith, Bool, true, false, cond, List, [], ◌∷◌, ◌++◌, length}
use Rattle.std.proofs.Common.{refl, sym, ◌∙◌, ap, Option, Some, None, Ok}
use Rattle.std.specs.Prelude.{unwrap_or, take, flat_map, slice_get}
use Rattle.std.proofs.lemmas.Bool.{cases_lt}
use Rattle.std.proofs.lemmas.List.{length-append}
use Rattle.sfc_base.proofs.ByPlace.{at_place, mapped}
use Rattle.sfc_base.specs.declared.ids.ProgId.{ProgId}
use Rattle.sfc_base.specs.declared.ids.VarId.{VarId}
use Rattle.sfc_plant.specs.declared.instance.Instance.{Instance}
use Rattle.sfc_plant.specs.declared.program_type.ProgramType.{ProgramType}
use Rattle.sfc_plant.specs.Plants.{PlantData}
use Rattle.sfc_plant.specs.Image.{locals_of}
use Rattle.sfc_plant.specs.Finding.{first_local, instance_locals, locals_at}
use Rattle.sfc_base.specs.declared.value.Value.{Value}
use Rattle.sfc_base.specs.declared.references.Variable.{Variable}
use Rattle.sfc_base.specs.declared.references.Variable.TheVariants.{Global, Local}
use Rattle.sfc_image.specs.declared.image.Image.{Image}
use Rattle.sfc_image.specs.Changes.{Changes, Change, Stored, Forced, Released, Reset, settled}
use Rattle.sfc_image.specs.Values.{variable_count, initial_of, is_local_of, latest_write, stored_value, forced_value, value_of}
use Rattle.sfc_image.specs.Environments.{number_of, read_at, force_at, Moment, environment_of}
use Rattle.sfc_image.specs.Agreement.{ImageAgrees}
use Rattle.sfc_image.specs.Answers.{is_variable, read_answer, not_forced, release_fault}
use Rattle.sfc_image.specs.Past.{variable_past, image_past, variable_in, past_in}
use Rattle.sfc_image.proofs.Counting.{bool_cases}
use Rattle.sfc_image.proofs.Numbers.{below_some}

-- ---- the past of each variable

module _ (plant : PlantData) (changes other : List Change) (same : image_past plant changes ≡ image_past plant other) where
  pub variable_by : (i : ℕ) → i < variable_count plant → variable_past plant changes i ≡ variable_past plant other i
  variable_by i lt = at_place (variable_past plant changes) (variable_past plant other) (variable_count plant) i (variable_past plant [] 0) lt same

  pub stored_by : (i : ℕ) → i < variable_count plant → stored_value plant changes i ≡ stored_value plant other i
  stored_by i lt = ap (λ p. p.stored) (variable_by i lt)

  pub forced_by : (i : ℕ) → i < variable_count plant → forced_value changes i ≡ forced_value other i
  forced_by i lt = ap (λ p. p.forced) (variable_by i lt)

  pub value_by : (i : ℕ) → i < variable_count plant → value_of plant changes i ≡ value_of plant other i
  value_by i lt = (λ j. unwrap_or (forced_by i lt j) (stored_by i lt j))

  below : (id : VarId) → is_variable plant id ≡ true → id.0 < variable_count plant
  below id e = elim (cases_lt id.0 (variable_count plant)) [
    | inl lt ↦ lt
    | inr le ↦ absurd (let bad : is_variable plant id ≡ false = grind arith in let worse : true ≡ false = sym e ∙ bad in cc)
  ]

  pub read_by : (id : VarId) → read_answer plant changes id ≡ read_answer plant other id
  read_by id = elim (bool_cases (is_variable plant id)) [
    | inl e ↦ (rw e (ap (λ v. Ok v) (value_by id.0 (below id e))))
    | inr e ↦ (rw e refl)
  ]

  pub release_by : (id : VarId) → release_fault plant changes id ≡ release_fault plant other id
  release_by id = elim (bool_cases (is_variable plant id)) [
    | inl e ↦ (rw e (ap not_forced (forced_by id.0 (below id e))))
    | inr e ↦ (rw e refl)
  ]

-- ---- what is kept is the past

pub keeps_past : (plant : PlantData) (image : Image) (changes : List Change) → ImageAgrees plant image (settled changes)
    → past_in plant image ≡ image_past plant changes
unfolding ImageAgrees past_in
keeps_past plant image changes k =
    mapped (variable_in image) (variable_past plant changes) (variable_count plant) (λ i lt.
    let long = k.slots.variables in
    let one = k.slots.each i (omega arith) in
    (λ j. record { stored = one.stored j; forced = one.forced j }))

pub same_past : (plant : PlantData) (image : Image) (changes other : List Change) → ImageAgrees plant image (settled changes)
    → image_past plant changes ≡ image_past plant other → ImageAgrees plant image (settled other)
unfolding ImageAgrees
same_past plant image changes other k e = record {
  slots = record {
    variables = k.slots.variables;
    instances = k.slots.instances;
    locals_are = k.slots.locals_are;
    opened = k.slots.opened;
    each = λ i lt.
        let one = k.slots.each i lt in
        let long = k.slots.variables in
        let stored = stored_by plant changes other e i (omega arith) in
        let forced = forced_by plant changes other e i (omega arith) in
        record {
          var_type = one.var_type;
          initial = one.initial;
          committed = one.committed ∙ stored;
          stored = one.stored ∙ stored;
          forced = one.forced ∙ forced;
          held = one.held ∙ forced;
          untried = one.untried;
        };
  };
  memos = k.memos;
}

-- ---- one change more

-- a write, where it comes
put_first : (b : Bool) (v : Value) (o p : Option Value) (d : Value) → unwrap_or o d ≡ unwrap_or p d
    → unwrap_or (cond b (Some v) o) d ≡ unwrap_or (cond b (Some v) p) d
put_first true v o p d e = refl
put_first false v o p d e = e

turn_first : (b : Bool) (v o p : Option Value) → o ≡ p → cond b v o ≡ cond b v p
turn_first b v o p e = ap (cond b v) e

stored_next : (plant : PlantData) (change : Change) (changes other : List Change) (i : ℕ)
    → stored_value plant changes i ≡ stored_value plant other i
    → stored_value plant (change ∷ changes) i ≡ stored_value plant (change ∷ other) i
stored_next plant (Stored id v) changes other i e =
    put_first (id.0 == i) v (latest_write plant changes i) (latest_write plant other i) (initial_of plant i) e
stored_next plant (Forced id v) changes other i e = e
stored_next plant (Released id) changes other i e = e
stored_next plant (Reset p) changes other i e =
    put_first (is_local_of plant p i) (initial_of plant i) (latest_write plant changes i) (latest_write plant other i) (initial_of plant i) e

forced_next : (change : Change) (changes other : List Change) (i : ℕ) → forced_value changes i ≡ forced_value other i
    → forced_value (change ∷ changes) i ≡ forced_value (change ∷ other) i
forced_next (Stored id v) changes other i e = e
forced_next (Forced id v) changes other i e = turn_first (id.0 == i) (Some v) (forced_value changes i) (forced_value other i) e
forced_next (Released id) changes other i e = turn_first (id.0 == i) None (forced_value changes i) (forced_value other i) e
forced_next (Reset p) changes other i e = e

pub past_next : (plant : PlantData) (change : Change) (changes other : List Change) → image_past plant changes ≡ image_past plant other
    → image_past plant (change ∷ changes) ≡ image_past plant (change ∷ other)
past_next plant change changes other same =
    mapped (variable_past plant (change ∷ changes)) (variable_past plant (change ∷ other)) (variable_count plant) (λ i lt.
    let stored = stored_next plant change changes other i (stored_by plant changes other same i lt) in
    let forced = forced_next change changes other i (forced_by plant changes other same i lt) in
    (λ j. record { stored = stored j; forced = forced j }))

pub past_cut : (plant : PlantData) (changes other later : List Change) → image_past plant changes ≡ image_past plant other
    → image_past plant (later ++ changes) ≡ image_past plant (later ++ other)
past_cut plant changes other [] e = e
past_cut plant changes other (change ∷ later) e =
    past_next plant change (later ++ changes) (later ++ other) (past_cut plant changes other later e)

-- ---- what a program reads

locals_before : (types : List ProgramType) (instances : List Instance) (k : ℕ)
    → length (flat_map (locals_of types) (take k instances)) + length (locals_at types (slice_get instances k))
    ≤ length (flat_map (locals_of types) instances)
locals_before types [] zero = omega arith
locals_before types [] (suc k) = omega arith
locals_before types (x ∷ instances) zero =
    let l = length-append (locals_of types x) (flat_map (locals_of types) instances) in omega arith
locals_before types (x ∷ instances) (suc k) =
    let l = length-append (locals_of types x) (flat_map (locals_of types) instances) in
    let m = length-append (locals_of types x) (flat_map (locals_of types) (take k instances)) in
    let rest = locals_before types instances k in
    omega arith

pub number_below : (plant : PlantData) (p : ProgId) (v : Variable) (i : ℕ) → number_of plant p v ≡ Some i → i < variable_count plant
number_below plant p (Global id) i e =
    let (lt, same) = below_some id.0 (length plant.globals) id.0 i e in
    let l = length-append plant.globals (flat_map (locals_of plant.types) plant.instances) in
    omega arith
number_below plant p (Local id) i e =
    let (lt, same) = below_some id.0 (length (instance_locals plant p)) (first_local plant p + id.0) i e in
    let l = length-append plant.globals (flat_map (locals_of plant.types) plant.instances) in
    let m = length-append plant.globals (flat_map (locals_of plant.types) (take p.0 plant.instances)) in
    let within = locals_before plant.types plant.instances p.0 in
    omega arith

module _ (plant : PlantData) (changes other : List Change) (p : ProgId) (same : image_past plant changes ≡ image_past plant other) where
  reads_by : (v : Variable) (o : Option ℕ) → number_of plant p v ≡ o
      → read_at (stored_value plant changes) o ≡ read_at (stored_value plant other) o
  reads_by v None e = refl
  reads_by v (Some i) e = stored_by plant changes other same i (number_below plant p v i e)

  forces_by : (v : Variable) (o : Option ℕ) → number_of plant p v ≡ o
      → force_at (forced_value changes) o ≡ force_at (forced_value other) o
  forces_by v None e = refl
  forces_by v (Some i) e = forced_by plant changes other same i (number_below plant p v i e)

  pub environment_by : (moment : Moment) → environment_of plant changes p moment ≡ environment_of plant other p moment
  environment_by moment =
      let env = environment_of plant changes p moment in
      (λ j. record {
        has = env.has;
        stored_at = λ v. reads_by v (number_of plant p v) refl j;
        forced_at = λ v. forces_by v (number_of plant p v) refl j;
        is_active = env.is_active;
        time_of = env.time_of;
        q = env.q;
      })

-- it agrees in one way at most
pub agrees_prop : (plant : PlantData) (image : Image) (changes : Changes) → IsProp (ImageAgrees plant image changes)
unfolding ImageAgrees
agrees_prop plant image changes = hlevel props
