-- What a change does to the values of variable i.
use Rattle.std.proofs.Common.{◌≡◌, ℕ, ◌==◌, Bool, true, false, cond, List, ◌∷◌, Some, None, unwrap_or, ap}
use Rattle.sfc_base.specs.declared.ids.VarId.{VarId}
use Rattle.sfc_base.specs.declared.ids.ProgId.{ProgId}
use Rattle.sfc_plant.specs.Plants.{PlantData}
use Rattle.sfc_base.specs.declared.value.Value.{Value}
use Rattle.sfc_image.specs.Changes.{Change, Stored, Forced, Released, Reset}
use Rattle.sfc_image.specs.Values.{initial_of, is_local_of, latest_write, stored_value, forced_value}

pub stored_here : (plant : PlantData) (changes : List Change) (id : VarId) (v : Value) (i : ℕ) → (id.0 == i) ≡ true
    → stored_value plant (Stored id v ∷ changes) i ≡ v
stored_here plant changes id v i e =
    ap (λ (b : Bool). unwrap_or (cond b (Some v) (latest_write plant changes i)) (initial_of plant i)) e

pub stored_there : (plant : PlantData) (changes : List Change) (id : VarId) (v : Value) (i : ℕ) → (id.0 == i) ≡ false
    → stored_value plant (Stored id v ∷ changes) i ≡ stored_value plant changes i
stored_there plant changes id v i e =
    ap (λ (b : Bool). unwrap_or (cond b (Some v) (latest_write plant changes i)) (initial_of plant i)) e

pub reset_here : (plant : PlantData) (changes : List Change) (p : ProgId) (i : ℕ) → is_local_of plant p i ≡ true
    → stored_value plant (Reset p ∷ changes) i ≡ initial_of plant i
reset_here plant changes p i e =
    ap (λ (b : Bool). unwrap_or (cond b (Some (initial_of plant i)) (latest_write plant changes i)) (initial_of plant i)) e

pub reset_there : (plant : PlantData) (changes : List Change) (p : ProgId) (i : ℕ) → is_local_of plant p i ≡ false
    → stored_value plant (Reset p ∷ changes) i ≡ stored_value plant changes i
reset_there plant changes p i e =
    ap (λ (b : Bool). unwrap_or (cond b (Some (initial_of plant i)) (latest_write plant changes i)) (initial_of plant i)) e

pub forced_here : (changes : List Change) (id : VarId) (v : Value) (i : ℕ) → (id.0 == i) ≡ true
    → forced_value (Forced id v ∷ changes) i ≡ Some v
forced_here changes id v i e = ap (λ (b : Bool). cond b (Some v) (forced_value changes i)) e

pub forced_there : (changes : List Change) (id : VarId) (v : Value) (i : ℕ) → (id.0 == i) ≡ false
    → forced_value (Forced id v ∷ changes) i ≡ forced_value changes i
forced_there changes id v i e = ap (λ (b : Bool). cond b (Some v) (forced_value changes i)) e

pub released_here : (changes : List Change) (id : VarId) (i : ℕ) → (id.0 == i) ≡ true
    → forced_value (Released id ∷ changes) i ≡ None
released_here changes id i e = ap (λ (b : Bool). cond b None (forced_value changes i)) e

pub released_there : (changes : List Change) (id : VarId) (i : ℕ) → (id.0 == i) ≡ false
    → forced_value (Released id ∷ changes) i ≡ forced_value changes i
released_there changes id i e = ap (λ (b : Bool). cond b None (forced_value changes i)) e
