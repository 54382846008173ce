-- What changes that do not touch variable i leave.
use Rattle.std.proofs.Common.{◌≡◌, ℕ, Bool, true, false, cond, List, [], ◌∷◌, ◌++◌, All, Option, Some, None, unwrap_or, refl, ◌∙◌, ap}
use Rattle.std.proofs.lemmas.List.Elements.{All-head, All-tail}
use Rattle.sfc_base.specs.declared.ids.VarId.{VarId}
use Rattle.sfc_base.specs.declared.ids.ProgId.{ProgId}
use Rattle.sfc_plant.specs.Plants.{PlantData}
use Rattle.sfc_base.specs.declared.value.Value.{Value}
use Rattle.sfc_image.specs.Changes.{Change, Stored, Forced, Released, Reset}
use Rattle.sfc_image.specs.Values.{initial_of, is_local_of, latest_write, stored_value, forced_value, value_of}
use Rattle.sfc_image.specs.Events.{writes, turns}
use Rattle.sfc_image.proofs.Counting.{same_number}
use Rattle.sfc_image.proofs.Written.{stored_here, reset_here, reset_there, forced_here, released_here}

unwritten : (plant : PlantData) (change : Change) (changes : List Change) (i : ℕ) → writes plant i change ≡ false
    → latest_write plant (change ∷ changes) i ≡ latest_write plant changes i
unwritten plant (Stored id v) changes i e = ap (λ (b : Bool). cond b (Some v) (latest_write plant changes i)) e
unwritten plant (Forced id v) changes i e = refl
unwritten plant (Released id) changes i e = refl
unwritten plant (Reset p) changes i e = ap (λ (b : Bool). cond b (Some (initial_of plant i)) (latest_write plant changes i)) e

unturned : (change : Change) (changes : List Change) (i : ℕ) → turns i change ≡ false
    → forced_value (change ∷ changes) i ≡ forced_value changes i
unturned (Stored id v) changes i e = refl
unturned (Forced id v) changes i e = ap (λ (b : Bool). cond b (Some v) (forced_value changes i)) e
unturned (Released id) changes i e = ap (λ (b : Bool). cond b None (forced_value changes i)) e
unturned (Reset p) changes i e = refl

all_unwritten : (plant : PlantData) (later earlier : List Change) (i : ℕ) → All (λ change. writes plant i change ≡ false) later
    → latest_write plant (later ++ earlier) i ≡ latest_write plant earlier i
all_unwritten plant [] earlier i all = refl
all_unwritten plant (change ∷ later) earlier i all =
    let P : Change → Type 0 = λ other. writes plant i other ≡ false in
    unwritten plant change (later ++ earlier) i (All-head P change later all)
    ∙ all_unwritten plant later earlier i (All-tail P change later all)

pub forces_left : (later earlier : List Change) (i : ℕ) → All (λ change. turns i change ≡ false) later
    → forced_value (later ++ earlier) i ≡ forced_value earlier i
forces_left [] earlier i all = refl
forces_left (change ∷ later) earlier i all =
    let P : Change → Type 0 = λ other. turns i other ≡ false in
    unturned change (later ++ earlier) i (All-head P change later all)
    ∙ forces_left later earlier i (All-tail P change later all)

pub stores_left : (plant : PlantData) (later earlier : List Change) (i : ℕ) → All (λ change. writes plant i change ≡ false) later
    → stored_value plant (later ++ earlier) i ≡ stored_value plant earlier i
stores_left plant later earlier i all =
    ap (λ (o : Option Value). unwrap_or o (initial_of plant i)) (all_unwritten plant later earlier i all)

pub values_left : (plant : PlantData) (later earlier : List Change) (i : ℕ) → All (λ change. writes plant i change ≡ false) later
    → All (λ change. turns i change ≡ false) later → value_of plant (later ++ earlier) i ≡ value_of plant earlier i
values_left plant later earlier i unwritten unturned =
    ap (λ (o : Option Value). unwrap_or o (stored_value plant (later ++ earlier) i)) (forces_left later earlier i unturned)
    ∙ ap (λ (v : Value). unwrap_or (forced_value earlier i) v) (stores_left plant later earlier i unwritten)

pub force_hides : (plant : PlantData) (later earlier : List Change) (id : VarId) (v : Value)
    → All (λ change. turns id.0 change ≡ false) later → value_of plant (later ++ Forced id v ∷ earlier) id.0 ≡ v
force_hides plant later earlier id v all =
    ap (λ (o : Option Value). unwrap_or o (stored_value plant (later ++ Forced id v ∷ earlier) id.0))
    (forces_left later (Forced id v ∷ earlier) id.0 all ∙ forced_here earlier id v id.0 (same_number id.0))

pub release_shows : (plant : PlantData) (changes : List Change) (id : VarId)
    → value_of plant (Released id ∷ changes) id.0 ≡ stored_value plant changes id.0
release_shows plant changes id =
    ap (λ (o : Option Value). unwrap_or o (stored_value plant changes id.0)) (released_here changes id id.0 (same_number id.0))

pub store_is_latest : (plant : PlantData) (later earlier : List Change) (id : VarId) (v : Value)
    → All (λ change. writes plant id.0 change ≡ false) later → stored_value plant (later ++ Stored id v ∷ earlier) id.0 ≡ v
store_is_latest plant later earlier id v all =
    stores_left plant later (Stored id v ∷ earlier) id.0 all ∙ stored_here plant earlier id v id.0 (same_number id.0)

pub reset_is_latest : (plant : PlantData) (later earlier : List Change) (p : ProgId) (i : ℕ) → is_local_of plant p i ≡ true
    → All (λ change. writes plant i change ≡ false) later
    → stored_value plant (later ++ Reset p ∷ earlier) i ≡ initial_of plant i
reset_is_latest plant later earlier p i local all =
    stores_left plant later (Reset p ∷ earlier) i all ∙ reset_here plant earlier p i local

pub never_written : (plant : PlantData) (changes : List Change) (i : ℕ) → All (λ change. writes plant i change ≡ false) changes
    → stored_value plant changes i ≡ initial_of plant i
never_written plant [] i all = refl
never_written plant (change ∷ changes) i all =
    let P : Change → Type 0 = λ other. writes plant i other ≡ false in
    ap (λ (o : Option Value). unwrap_or o (initial_of plant i)) (unwritten plant change changes i (All-head P change changes all))
    ∙ never_written plant changes i (All-tail P change changes all)

pub others_left : (plant : PlantData) (changes : List Change) (p : ProgId) (i : ℕ) → is_local_of plant p i ≡ false
    → value_of plant (Reset p ∷ changes) i ≡ value_of plant changes i
others_left plant changes p i e =
    ap (λ (v : Value). unwrap_or (forced_value changes i) v) (reset_there plant changes p i e)
