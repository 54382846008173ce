-- Shots of the first programs, and one more.
use Rattle.std.proofs.Common.{◌≡◌, ◌∙◌, ap, sym, subst, ℕ, ◌+◌, ◌<◌, List, [], ◌∷◌, ◌++◌, length, slice_get, Some, inl, inr, arith}
use Rattle.std.proofs.lemmas.Bool.{cases_eq}
use Rattle.std.proofs.lemmas.List.{get_or_push, length_push}
use Rattle.std.proofs.lemmas.Option.{slice_get-get_or}
use Rattle.std.proofs.Math.ListN.{get_or-append}
use Rattle.sfc_output.specs.sfc_instances.PlantState.{PlantState}
use Rattle.sfc_output.specs.sfc_tables.Tables.{tables_of}
use Rattle.sfc_plant.specs.Finding.{chart_of}
use Rattle.sfc_plant.specs.Plants.{PlantData}
use Rattle.sfc_panel.specs.Pictures.{IsShot, IsShotAt}
use Rattle.sfc_panel.specs.declared.picture.Shot.{Shot}

-- one of each of the first n programs
pub record AreShots (plant : PlantData) (state : PlantState) (shots : List Shot) (n : ℕ) : Type 0 where
  pub len : length shots ≡ n
  pub each : (k : ℕ) → k < n → IsShotAt plant state k (slice_get shots k)

same_before : (xs : List Shot) (y : Shot) (k : ℕ) → k < length xs → slice_get (xs ++ y ∷ []) k ≡ slice_get xs k
same_before xs y k less =
    slice_get-get_or (xs ++ y ∷ []) k y (omega (arith, length_push xs y))
    ∙ ap (λ (x : Shot). Some x) (get_or-append xs (y ∷ []) y k less) ∙ sym (slice_get-get_or xs k y less)

last_there : (xs : List Shot) (y : Shot) (k : ℕ) → length xs ≡ k → slice_get (xs ++ y ∷ []) k ≡ Some y
last_there xs y k is =
    slice_get-get_or (xs ++ y ∷ []) k y (omega (arith, length_push xs y)) ∙ ap (λ (x : Shot). Some x) (get_or_push xs y y k is)

pub one_more : (plant : PlantData) (state : PlantState) (xs : List Shot) (y : Shot) (n : ℕ) → AreShots plant state xs n
    → IsShot (tables_of (chart_of plant (record { 0 = n }))) (state.instance_state n) y → AreShots plant state (xs ++ y ∷ []) (n + 1)
one_more plant state xs y n are is = record {
  len = length_push xs y ∙ ap (λ m. m + 1) are.len;
  each = λ k less. elim (cases_eq k n) [
    | inl at ↦ subst (λ o. IsShotAt plant state k o) (sym (last_there xs y k (are.len ∙ sym at)))
        (subst (λ m. IsShot (tables_of (chart_of plant (record { 0 = m }))) (state.instance_state m) y) (sym at) is)
    | inr apart ↦ subst (λ o. IsShotAt plant state k o) (sym (same_before xs y k (omega (arith, are.len)))) (are.each k (omega arith))
  ];
}
