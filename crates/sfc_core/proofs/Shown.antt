-- What variables read after an event.
use Rattle.std.proofs.Common.{◌≡◌, ◌≢◌, ◌∙◌, Bool, cond, List, ◌∷◌, Option, Some, None, unwrap_or, ap}
use Rattle.std.proofs.lemmas.Bool.{ne_eqb}
use Rattle.sfc_base.specs.declared.ids.VarId.{VarId}
use Rattle.sfc_plant.specs.Plants.{PlantData}
use Rattle.sfc_base.specs.declared.value.Value.{Value}
use Rattle.sfc_instances.specs.sfc_image.Changes.{Change, Stored, Forced, Released}
use Rattle.sfc_instances.specs.sfc_image.Values.{stored_value, forced_value, value_of}
use Rattle.sfc_instances.proofs.of_sfc_image.Counting.{same_number}
use Rattle.sfc_instances.proofs.of_sfc_image.Written.{stored_here, stored_there, forced_here}

module _ (plant : PlantData) (changes : List Change) (id : VarId) (v : Value) where
  pub given_reads : forced_value changes id.0 ≡ None → value_of plant (Stored id v ∷ changes) id.0 ≡ v
  given_reads e =
      ap (λ (o : Option Value). unwrap_or o (stored_value plant (Stored id v ∷ changes) id.0)) e
      ∙ stored_here plant changes id v id.0 (same_number id.0)

  pub hidden_reads : (forced : Value) → forced_value changes id.0 ≡ Some forced → value_of plant (Stored id v ∷ changes) id.0 ≡ forced
  hidden_reads forced e = ap (λ (o : Option Value). unwrap_or o (stored_value plant (Stored id v ∷ changes) id.0)) e

  pub forced_reads : value_of plant (Forced id v ∷ changes) id.0 ≡ v
  forced_reads =
      ap (λ (o : Option Value). unwrap_or o (stored_value plant (Forced id v ∷ changes) id.0))
      (forced_here changes id v id.0 (same_number id.0))

  pub other_reads : (other : VarId) → id.0 ≢ other.0 → value_of plant (Stored id v ∷ changes) other.0 ≡ value_of plant changes other.0
  other_reads other ne =
      ap (λ (x : Value). unwrap_or (forced_value changes other.0) x) (stored_there plant changes id v other.0 (ne_eqb id.0 other.0 ne))

  pub force_elsewhere : (other : VarId) → id.0 ≢ other.0 → value_of plant (Forced id v ∷ changes) other.0 ≡ value_of plant changes other.0
  force_elsewhere other ne =
      ap (λ (b : Bool). unwrap_or (cond b (Some v) (forced_value changes other.0)) (stored_value plant changes other.0))
      (ne_eqb id.0 other.0 ne)

pub release_elsewhere : (plant : PlantData) (changes : List Change) (id other : VarId) → id.0 ≢ other.0
    → value_of plant (Released id ∷ changes) other.0 ≡ value_of plant changes other.0
release_elsewhere plant changes id other ne =
    ap (λ (b : Bool). unwrap_or (cond b None (forced_value changes other.0)) (stored_value plant changes other.0))
    (ne_eqb id.0 other.0 ne)
