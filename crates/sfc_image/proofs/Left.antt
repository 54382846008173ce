-- What a body leaves.
use Rattle.std.proofs.Common.{◌≡◌, ◌≢◌, ◌⊎◌, inl, inr, ℕ, ◌+◌, ◌<◌, ◌≤◌, arith, Bool, false, List, [], ◌∷◌, ◌++◌, length, map, flat_map, filter_map, take, get_or, All, Option, Some, None, is_some, refl, sym, ◌∙◌, ap, subst}
use Rattle.std.specs.List.{range_with_len, cons_option}
use Rattle.std.specs.Option.{option_map}
use Rattle.std.proofs.lemmas.Bool.Decides.{eqb_tells}
use Rattle.std.proofs.lemmas.List.{append_assoc, get_or_append_left, get_or-append-add, length-append}
use Rattle.std.proofs.lemmas.List.Elements.{All-nil, All-cons}
use Rattle.std.proofs.lemmas.List.FromFn.{get_or-map-range_with_len, length-map-range_with_len}
use Rattle.sfc_base.specs.declared.ids.ProgId.{ProgId}
use Rattle.sfc_plant.specs.Plants.{PlantData}
use Rattle.sfc_plant.specs.Image.{locals_of as locals_of_instance}
use Rattle.sfc_plant.specs.Finding.{first_local, instance_locals}
use Rattle.sfc_base.specs.declared.value.Value.{Value}
use Rattle.sfc_base.specs.declared.references.Variable.{Variable}
use Rattle.sfc_base.specs.declared.references.Variable.TheVariants.{Global, Local}
use Rattle.sfc_expr.specs.Environment.{Environment}
use Rattle.sfc_image.specs.declared.slot.Slot.{Slot}
use Rattle.sfc_image.specs.declared.slot.Locals.{Locals}
use Rattle.sfc_image.specs.Changes.{Change, Stored, Forced, Released, Reset, Changes, all_of, settled, trying, tried_more, with_change}
use Rattle.sfc_image.specs.Values.{stored_value, forced_value}
use Rattle.sfc_image.specs.Environments.{number_of, read_at}
use Rattle.sfc_image.specs.Events.{writes, turns}
use Rattle.sfc_image.specs.Bodies.{global_at, local_at, variables_of, stored_to, left_in, left_by, tried_all, with_changes}
use Rattle.sfc_image.specs.Private.Keeping.{locals_of, SlotsAgree}
use Rattle.sfc_image.specs.Private.Stores.{IsWriteAmong}
use Rattle.sfc_image.proofs.Counting.{other_numbers}
use Rattle.sfc_image.proofs.Happened.{stores_left, forces_left}
use Rattle.sfc_image.proofs.Written.{stored_here, stored_there}
use Rattle.sfc_image.proofs.Numbers.{below_some, one_variable}

-- ---- writes to variables that the program can name

module _ (plant : PlantData) (p : ProgId) where
  -- the program cannot name variable i
  abbrev pub IsBeyond : ℕ → Type 0
  IsBeyond i = (v : Variable) → number_of plant p v ≢ Some i

  abbrev pub AreWrites : List Change → Type 0
  AreWrites changes = All (IsWriteAmong (length plant.globals) (locals_of plant p)) changes

  not_written : (i : ℕ) → IsBeyond i → (change : Change) → IsWriteAmong (length plant.globals) (locals_of plant p) change
      → writes plant i change ≡ false
  not_written i beyond (Stored id x) w = other_numbers id.0 i (λ e. beyond w.0 (w.1 ∙ ap (λ (k : ℕ). Some k) (sym e)))
  not_written i beyond (Forced id x) w = absurd w
  not_written i beyond (Released id) w = absurd w
  not_written i beyond (Reset instance) w = absurd w

  not_turned : (i : ℕ) (change : Change) → IsWriteAmong (length plant.globals) (locals_of plant p) change → turns i change ≡ false
  not_turned i (Stored id x) w = refl
  not_turned i (Forced id x) w = absurd w
  not_turned i (Released id) w = absurd w
  not_turned i (Reset instance) w = absurd w

  pub beyond_left : (changes rest : List Change) (i : ℕ) → IsBeyond i → AreWrites changes
      → stored_value plant (changes ++ rest) i ≡ stored_value plant rest i
  beyond_left changes rest i beyond all =
      stores_left plant changes rest i (λ k d lt. not_written i beyond (get_or changes k d) (all k d lt))

  pub forces_stay : (changes rest : List Change) (i : ℕ) → AreWrites changes → forced_value (changes ++ rest) i ≡ forced_value rest i
  forces_stay changes rest i all = forces_left changes rest i (λ k d lt. not_turned i (get_or changes k d) (all k d lt))

-- ---- what a body leaves is such writes

module _ (plant : PlantData) (p : ProgId) (env : Environment) where
  abbrev left_among : List Variable → List Change
  left_among vs = filter_map (left_in plant p env) vs

  one_write : (v : Variable) (o : Option ℕ) (changes : List Change) → number_of plant p v ≡ o → AreWrites plant p changes
      → AreWrites plant p (cons_option (option_map (stored_to (env.stored_at v)) o) changes)
  one_write v None changes e all = all
  one_write v (Some i) changes e all =
      All-cons (IsWriteAmong (length plant.globals) (locals_of plant p)) (stored_to (env.stored_at v) i) changes (v, e) all

  among_writes : (vs : List Variable) → AreWrites plant p (left_among vs)
  among_writes [] = All-nil (IsWriteAmong (length plant.globals) (locals_of plant p))
  among_writes (v ∷ vs) = one_write v (number_of plant p v) (left_among vs) refl (among_writes vs)

  pub left_writes : AreWrites plant p (left_by plant p env)
  left_writes = among_writes (variables_of plant p)

  -- ---- variable i is left with the value x that is stored in it, or is none of these

  module _ (x : Value) (rest : List Change) (i : ℕ) (gives : (v : Variable) → number_of plant p v ≡ Some i → env.stored_at v ≡ x) where
    abbrev IsOther : Variable → Type 0
    IsOther v = number_of plant p v ≢ Some i

    abbrev Left : List Variable → List Change → Type 0
    Left vs changes = (stored_value plant (changes ++ rest) i ≡ x) ⊎ All IsOther vs

    some_same : (j k : ℕ) → Some j ≡ Some k → j ≡ k
    some_same j k s = cc

    one_left : (v : Variable) (vs : List Variable) (o : Option ℕ) (changes : List Change) → number_of plant p v ≡ o → Left vs changes
        → Left (v ∷ vs) (cons_option (option_map (stored_to (env.stored_at v)) o) changes)
    one_left v vs None changes e (inl done) = inl done
    one_left v vs None changes e (inr all) = inr (All-cons IsOther v vs (λ some. absurd cc) all)
    one_left v vs (Some j) changes e left =
        elim (eqb_tells j i) as (λ _. Left (v ∷ vs) (stored_to (env.stored_at v) j ∷ changes)) [
          | inl w ↦
              inl (stored_here plant (changes ++ rest) (record { 0 = j }) (env.stored_at v) i w.0
              ∙ gives v (e ∙ ap (λ (k : ℕ). Some k) w.1))
          | inr w ↦
              elim left as (λ _. Left (v ∷ vs) (stored_to (env.stored_at v) j ∷ changes)) [
                | inl done ↦ inl (stored_there plant (changes ++ rest) (record { 0 = j }) (env.stored_at v) i w.0 ∙ done)
                | inr all ↦ inr (All-cons IsOther v vs (λ some. w.1 (some_same j i (sym e ∙ some))) all)
              ]
        ]

    all_left : (vs : List Variable) → Left vs (left_among vs)
    all_left [] = inr (All-nil IsOther)
    all_left (v ∷ vs) = one_left v vs (number_of plant p v) (left_among vs) refl (all_left vs)

-- ---- all variables that can be named are among those of the program

module _ (plant : PlantData) (p : ProgId) (P : Variable → Type 0) (all : All P (variables_of plant p)) where
  of_global : (k : ℕ) → k < length plant.globals → P (global_at k)
  of_global k lt =
      let g : ℕ = length plant.globals in
      let n : ℕ = length (instance_locals plant p) in
      let front = map global_at (range_with_len 0 g) in
      let back = map local_at (range_with_len 0 n) in
      let long = length-map-range_with_len global_at 0 g in
      let whole = length-append front back in
      let d : Variable = global_at k in
      subst P (get_or_append_left front back d k (omega (arith, lt, long)) ∙ get_or-map-range_with_len global_at 0 g k k d lt (omega arith))
      (all k d (omega (arith, lt, long, whole)))

  of_local : (k : ℕ) → k < length (instance_locals plant p) → P (local_at k)
  of_local k lt =
      let g : ℕ = length plant.globals in
      let n : ℕ = length (instance_locals plant p) in
      let front = map global_at (range_with_len 0 g) in
      let back = map local_at (range_with_len 0 n) in
      let long = length-map-range_with_len global_at 0 g in
      let long_back = length-map-range_with_len local_at 0 n in
      let whole = length-append front back in
      let d : Variable = local_at k in
      subst P (get_or-append-add front back k d ∙ get_or-map-range_with_len local_at 0 n k k d lt (omega arith))
      (all (length front + k) d (omega (arith, lt, long_back, whole)))

  pub of_named : (v : Variable) (i : ℕ) → number_of plant p v ≡ Some i → P v
  of_named (Global id) i e = of_global id.0 (below_some id.0 (length plant.globals) id.0 i e).0
  of_named (Local id) i e =
      of_local id.0 (below_some id.0 (length (instance_locals plant p)) (first_local plant p + id.0) i e).0

-- A body leaves in a variable that its program can name what the statements leave there.
pub named_left : (plant : PlantData) (p : ProgId) (env : Environment) (rest : List Change) (v : Variable) (i : ℕ)
    → number_of plant p v ≡ Some i → stored_value plant (left_by plant p env ++ rest) i ≡ env.stored_at v
named_left plant p env rest v i e =
    let others = flat_map (locals_of_instance plant.types) (take p.0 plant.instances) in
    let long = length-append plant.globals others in
    let le : length plant.globals ≤ first_local plant p = omega (arith, long) in
    elim (all_left plant p env (env.stored_at v) rest i
    (λ w f. ap env.stored_at (one_variable (length plant.globals) (first_local plant p) (length (instance_locals plant p)) i le w v f e))
    (variables_of plant p))
    as (λ _. stored_value plant (left_by plant p env ++ rest) i ≡ env.stored_at v) [
      | inl done ↦ done
      | inr all ↦ absurd (of_named plant p (λ w. number_of plant p w ≢ Some i) all v i e e)
    ]

-- what it leaves in another
pub others_stay : (plant : PlantData) (p : ProgId) (env : Environment) (rest : List Change) (i : ℕ) → IsBeyond plant p i
    → stored_value plant (left_by plant p env ++ rest) i ≡ stored_value plant rest i
others_stay plant p env rest i beyond = beyond_left plant p (left_by plant p env) rest i beyond (left_writes plant p env)

-- where its values are what writes of the program gave, it leaves all variables as these do
stored_left : (plant : PlantData) (p : ProgId) (env : Environment) (made rest : List Change) → AreWrites plant p made
    → ((v : Variable) → env.stored_at v ≡ read_at (stored_value plant (made ++ rest)) (number_of plant p v))
    → (i : ℕ) → stored_value plant (left_by plant p env ++ rest) i ≡ stored_value plant (made ++ rest) i
stored_left plant p env made rest writes gives i =
    elim (all_left plant p env (stored_value plant (made ++ rest) i) rest i
    (λ v e. gives v ∙ ap (read_at (stored_value plant (made ++ rest))) e) (variables_of plant p))
    as (λ _. stored_value plant (left_by plant p env ++ rest) i ≡ stored_value plant (made ++ rest) i) [
      | inl done ↦ done
      | inr all ↦
          let beyond : IsBeyond plant p i =
          λ v e. of_named plant p (λ w. number_of plant p w ≢ Some i) all v i e e in
          others_stay plant p env rest i beyond ∙ sym (beyond_left plant p made rest i beyond writes)
    ]

pub forces_left_by : (plant : PlantData) (p : ProgId) (env : Environment) (rest : List Change) (i : ℕ)
    → forced_value (left_by plant p env ++ rest) i ≡ forced_value rest i
forces_left_by plant p env rest i = forces_stay plant p (left_by plant p env) rest i (left_writes plant p env)

-- ---- histories that give all variables the same values

pub record GivesSame (plant : PlantData) (one other : Changes) : Type 0 where
  pub opened : is_some one.tried ≡ is_some other.tried
  pub committed : (i : ℕ) → stored_value plant one.committed i ≡ stored_value plant other.committed i
  pub stored : (i : ℕ) → stored_value plant (all_of one) i ≡ stored_value plant (all_of other) i
  pub forced : (i : ℕ) → forced_value (all_of one) i ≡ forced_value (all_of other) i
  pub held : (i : ℕ) → forced_value one.committed i ≡ forced_value other.committed i

pub same_agrees : (plant : PlantData) (slots : List Slot) (locals : List Locals) (count : ℕ) (b : Bool) (one other : Changes)
    → GivesSame plant one other → SlotsAgree plant slots locals count b one → SlotsAgree plant slots locals count b other
same_agrees plant slots locals count b one other same h = record {
  variables = h.variables;
  instances = h.instances;
  locals_are = h.locals_are;
  opened = h.opened ∙ same.opened;
  each = λ i lt.
      let k = h.each i lt in
      record {
        var_type = k.var_type;
        initial = k.initial;
        committed = k.committed ∙ same.committed i;
        stored = k.stored ∙ same.stored i;
        forced = k.forced ∙ same.forced i;
        held = k.held ∙ same.held i;
        untried = k.untried;
      };
}

-- what a body leaves, in place of the writes that it made
pub left_agrees : (plant : PlantData) (p : ProgId) (env : Environment) (slots : List Slot) (locals : List Locals) (count : ℕ) (b : Bool)
    (log : Changes) (made : List Change) → AreWrites plant p made
    → ((v : Variable) → env.stored_at v ≡ read_at (stored_value plant (all_of (with_changes made log))) (number_of plant p v))
    → SlotsAgree plant slots locals count b (with_changes made log)
    → SlotsAgree plant slots locals count b (with_changes (left_by plant p env) log)
left_agrees plant p env slots locals count b log made writes =
    by_tried log.tried where
      forces : (rest : List Change) (i : ℕ) → forced_value (made ++ rest) i ≡ forced_value (left_by plant p env ++ rest) i
      forces rest i =
          forces_stay plant p made rest i writes ∙ sym (forces_left_by plant p env rest i)

      by_tried : (o : Option (List Change))
          → ((v : Variable) → env.stored_at v ≡ read_at (stored_value plant (all_of (tried_all made o log.committed))) (number_of plant p v))
          → SlotsAgree plant slots locals count b (tried_all made o log.committed)
          → SlotsAgree plant slots locals count b (tried_all (left_by plant p env) o log.committed)
      by_tried None gives =
          let stored : (i : ℕ) → stored_value plant (made ++ log.committed) i ≡ stored_value plant (left_by plant p env ++ log.committed) i =
          λ i. sym (stored_left plant p env made log.committed writes gives i) in
          same_agrees plant slots locals count b (settled (made ++ log.committed)) (settled (left_by plant p env ++ log.committed))
          (record { opened = refl; committed = stored; stored = stored; forced = forces log.committed; held = forces log.committed })
      by_tried (Some tried) gives =
          let joined : (changes : List Change) → changes ++ tried ++ log.committed ≡ changes ++ (tried ++ log.committed) =
          λ changes. append_assoc changes tried log.committed in
          let gives' : (v : Variable) → env.stored_at v ≡ read_at (stored_value plant (made ++ (tried ++ log.committed))) (number_of plant p v) =
          λ v. gives v ∙ ap (λ (changes : List Change). read_at (stored_value plant changes) (number_of plant p v)) (joined made) in
          same_agrees plant slots locals count b (trying log.committed (made ++ tried)) (trying log.committed (left_by plant p env ++ tried))
          (record {
            opened = refl;
            committed = λ i. refl;
            stored = λ i.
                ap (λ (changes : List Change). stored_value plant changes i) (joined made)
                ∙ sym (stored_left plant p env made (tried ++ log.committed) writes gives' i)
                ∙ ap (λ (changes : List Change). stored_value plant changes i) (sym (joined (left_by plant p env)));
            forced = λ i.
                ap (λ (changes : List Change). forced_value changes i) (joined made) ∙ forces (tried ++ log.committed) i
                ∙ ap (λ (changes : List Change). forced_value changes i) (sym (joined (left_by plant p env)));
            held = λ i. refl;
          })

-- one change more
pub one_change : (change : Change) (changes : Changes) → with_change change changes ≡ with_changes (change ∷ []) changes
one_change change changes = by_tried changes.tried where
  by_tried : (o : Option (List Change)) → tried_more change o changes.committed ≡ tried_all (change ∷ []) o changes.committed
  by_tried None = refl
  by_tried (Some tried) = refl

-- no change more
pub no_change : (changes : Changes) → with_changes [] changes ≡ changes
no_change changes = by_tried changes.committed changes.tried where
  by_tried : (committed : List Change) (o : Option (List Change)) → tried_all [] o committed ≡ record { committed = committed; tried = o }
  by_tried committed None = refl
  by_tried committed (Some tried) = refl
