-- What the actions of a scan leave in the image.
use Rattle.std.proofs.Common.{◌≡◌, ◌++◌, true, false, List, Option, Some, None, Result, Ok, Err, is_ok, is_err, OnOk, refl, sym, ap, ◌∙◌}
use Rattle.sfc_expr.specs.declared.fault.Fault.{Fault}
use Rattle.sfc_plant.specs.Plants.{PlantData}
use Rattle.sfc_image.specs.declared.image.Image.{Image}
use Rattle.sfc_image.specs.Changes.{Change, settled, trying}
use Rattle.sfc_image.specs.Agreement.{ImageAgrees}
use Rattle.sfc_instance.specs.declared.fault_place.FaultPlace.{FaultPlace}
use Rattle.sfc_instance.specs.Life.{PlacedFault}
use Rattle.sfc_instance.specs.Private.Acting.{Acts, HasActed, HasActedSo, kind_in, place_in, place_of}

-- what holds where a call succeeded
pub on_ok : {A F : Type 0} (r : Result A F) (P : Type 0) → is_ok r ≡ true → OnOk r P → P
on_ok (Ok x) P on h = h
on_ok (Err f) P on h = absurd cc

pub hold_ok : {A F : Type 0} (r : Result A F) (P : Type 0) → P → OnOk r P
hold_ok (Ok x) P h = h
hold_ok (Err f) P h = tt

pub none_ok : {A F : Type 0} (r : Result A F) (P : Type 0) → is_err r ≡ true → OnOk r P
none_ok (Ok x) P off = absurd cc
none_ok (Err f) P off = tt

pub more_ok : {A F : Type 0} (r : Result A F) (P Q : Type 0) → (P → Q) → OnOk r P → OnOk r Q
more_ok (Ok x) P Q more h = more h
more_ok (Err f) P Q more h = tt

module _ (plant : PlantData) (changes : List Change) (mid image : Image) (wanted : Result (List Change) PlacedFault) where
  -- a transaction that is committed where the call succeeded, and else given up
  pub closed : (answer : Result (Unit {0}) Fault) → Acts plant changes mid (kind_in answer) wanted
      → (is_ok answer ≡ true → (tried : List Change) → ImageAgrees plant mid (trying changes tried) → ImageAgrees plant image (settled (tried ++ changes)))
      → (is_ok answer ≡ false → (tried : List Change) → ImageAgrees plant mid (trying changes tried) → ImageAgrees plant image (settled changes))
      → HasActed plant changes image answer wanted
  unfolding HasActed
  closed (Ok u) acts keep give = (acts.tried ++ changes, acts.ends, keep refl acts.tried acts.agrees)
  closed (Err f) acts keep give = (acts.ends.0, acts.ends.1, acts.ends.2, give refl acts.tried acts.agrees)

-- and one that is given up, where the place of a fault was looked for
pub placed : (plant : PlantData) (changes : List Change) (image : Image) (wanted : Result (List Change) PlacedFault) (place : Option FaultPlace)
    → Acts plant changes image (place_in place) wanted → place ≡ place_of wanted
placed plant changes image wanted None acts = sym (ap place_of acts.ends)
placed plant changes image wanted (Some there) acts =
    ap (λ (x : FaultPlace). Some x) (sym acts.ends.2) ∙ sym (ap place_of acts.ends.1)

-- where the fault of the actions is, which is kept
pub kept_so : (plant : PlantData) (changes : List Change) (image : Image) (wanted : Result (List Change) PlacedFault)
    (answer : Result (Unit {0}) Fault) (place : Option FaultPlace)
    → HasActed plant changes image answer wanted → (is_err answer ≡ true → place ≡ place_of wanted)
    → HasActedSo plant changes image answer place wanted
unfolding HasActed HasActedSo
kept_so plant changes image wanted (Ok u) place acted there = acted
kept_so plant changes image wanted (Err f) place acted there =
    let stop = acted.0 in
    let kind = acted.2 in (
      record {
        there = stop.place;
        kept = there refl ∙ ap place_of acted.1;
        fault = acted.1 ∙ (λ i. Err (record { fault = kind i; place = stop.place }));
      },
      acted.3,
    )

-- after a fault the image is what it was
module _ (plant : PlantData) (changes : List Change) (image : Image) where
  pub given_up : (answer : Result (Unit {0}) Fault) (wanted : Result (List Change) PlacedFault) → HasActed plant changes image answer wanted
      → is_err answer ≡ true → ImageAgrees plant image (settled changes)
  unfolding HasActed
  given_up (Ok u) wanted acted on = absurd (let bad : false ≡ true = on in cc)
  given_up (Err f) wanted acted on = acted.3

  -- and so is another one then
  pub left_there : (other : Image) (answer : Result (Unit {0}) Fault) (wanted : Result (List Change) PlacedFault)
      → HasActed plant changes image answer wanted → is_err answer ≡ true → ImageAgrees plant other (settled changes)
      → HasActed plant changes other answer wanted
  unfolding HasActed
  left_there other (Ok u) wanted acted on h = absurd (let bad : false ≡ true = on in cc)
  left_there other (Err f) wanted acted on h = (acted.0, acted.1, acted.2, h)
