-- The step of a name, among the steps and among their names.
use Rattle.std.proofs.Common.{◌≡◌, ℕ, ◌<◌, nat_lt, Bool, true, false, not, cond, List, [], ◌∷◌, length, map, Some, None, ◌+◌, refl, ap, ◌∙◌, sym}
use Rattle.std.specs.List.{position_or_len}
use Rattle.std.proofs.lemmas.List.{length-map}
use Rattle.std.proofs.lemmas.List.Quantifiers.{position-Some}
use Rattle.sfc_base.specs.Case.{same_word}
use Rattle.sfc_base.specs.NameLists.{place_of}
use Rattle.sfc_plant.specs.declared.chart.Step.{Step}
use Rattle.sfc_plant.specs.declared.chart.Chart.{Chart}
use Rattle.sfc_plant.specs.ElementNames.{step_place}

len_mapped : (p : List ℕ → Bool) (steps : List Step) → position_or_len (λ s. p s.name) steps ≡ position_or_len p (map (λ s. s.name) steps)
len_mapped p [] = refl
len_mapped p (s ∷ steps) = by (p s.name) (len_mapped p steps) where
  by : (b : Bool) → position_or_len (λ s. p s.name) steps ≡ position_or_len p (map (λ s. s.name) steps)
      → cond (not b) (1 + position_or_len (λ s. p s.name) steps) 0 ≡ cond (not b) (1 + position_or_len p (map (λ s. s.name) steps)) 0
  by true e = refl
  by false e = ap (λ n. 1 + n) e

pub step_place_among : (chart : Chart) (name : List ℕ) → step_place chart name ≡ place_of name (map (λ s. s.name) chart.steps)
step_place_among chart name =
    let at : _ = len_mapped (same_word name) chart.steps in
    let n : length (map (λ (s : Step). s.name) chart.steps) ≡ length chart.steps = length-map chart.steps (λ s. s.name) in
    ap (λ i. cond (nat_lt i (length chart.steps)) (Some i) None) at
    ∙ ap (λ m. cond (nat_lt (position_or_len (same_word name) (map (λ s. s.name) chart.steps)) m)
    (Some (position_or_len (same_word name) (map (λ s. s.name) chart.steps))) None) (sym n)

pub step_place_below : (chart : Chart) (name : List ℕ) (i : ℕ) → step_place chart name ≡ Some i → i < length chart.steps
step_place_below chart name i e = (position-Some (λ s. same_word name s.name) chart.steps i (record { name = []; is_initial = false; associations = [] }) e).0
