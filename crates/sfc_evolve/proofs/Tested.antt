-- One step of a walk over listed steps that tests or clears them, and over places that sets them.
use Rattle.std.proofs.Common.{◌≡◌, ℕ, ◌+◌, ◌<◌, ◌≤◌, Bool, true, false, List, length, get_or, drop, refl, sym, ap, ◌∙◌}
use Rattle.std.specs.Prelude.{slice_set}
use Rattle.std.specs.List.{list_all, list_any}
use Rattle.std.proofs.Math.Numerals.{add-one}
use Rattle.std.proofs.Math.Seq.{drop-cons}
use Rattle.std.proofs.lemmas.List.{drop_all}
use Rattle.sfc_base.specs.declared.references.StepId.{StepId}
use Rattle.sfc_evolve.specs.Private.Keeping.{unmarked, set_at}

module _ (p : StepId → Bool) (steps : List StepId) (i : ℕ) where
  pub all_more : (b : Bool) → i < length steps → p (get_or steps i record { 0 = 0 }) ≡ true → list_all p (drop i steps) ≡ b
      → list_all p (drop (i + 1) steps) ≡ b
  all_more b lt on rest =
      let step : list_all p (drop i steps) ≡ list_all p (drop (i + 1) steps) =
      rw (add-one, drop-cons steps i record { 0 = 0 }, on) refl in
      sym step ∙ rest

  pub all_stop : (b : Bool) → i < length steps → p (get_or steps i record { 0 = 0 }) ≡ false → list_all p (drop i steps) ≡ b
      → false ≡ b
  all_stop b lt off rest =
      let step : list_all p (drop i steps) ≡ false = rw (drop-cons steps i record { 0 = 0 }, off) refl in
      sym step ∙ rest

  pub all_done : (b : Bool) → length steps ≤ i → list_all p (drop i steps) ≡ b → true ≡ b
  all_done b le rest = sym (ap (list_all p) (drop_all i steps le)) ∙ rest

  pub any_more : (b : Bool) → i < length steps → p (get_or steps i record { 0 = 0 }) ≡ false → list_any p (drop i steps) ≡ b
      → list_any p (drop (i + 1) steps) ≡ b
  any_more b lt off rest =
      let step : list_any p (drop i steps) ≡ list_any p (drop (i + 1) steps) =
      rw (add-one, drop-cons steps i record { 0 = 0 }, off) refl in
      sym step ∙ rest

  pub any_stop : (b : Bool) → i < length steps → p (get_or steps i record { 0 = 0 }) ≡ true → list_any p (drop i steps) ≡ b
      → true ≡ b
  any_stop b lt on rest =
      let step : list_any p (drop i steps) ≡ true = rw (drop-cons steps i record { 0 = 0 }, on) refl in
      sym step ∙ rest

  pub any_done : (b : Bool) → length steps ≤ i → list_any p (drop i steps) ≡ b → false ≡ b
  any_done b le rest = sym (ap (list_any p) (drop_all i steps le)) ∙ rest

pub unmarked_more : (steps : List StepId) (i : ℕ) (flags next left : List Bool) → i < length steps
    → next ≡ slice_set flags (get_or steps i record { 0 = 0 }).0 false → unmarked (drop i steps) flags ≡ left
    → unmarked (drop (i + 1) steps) next ≡ left
unmarked_more steps i flags next left lt is rest =
    let step : unmarked (drop i steps) flags ≡ unmarked (drop (i + 1) steps) next =
    rw (is, add-one, drop-cons steps i record { 0 = 0 }) refl in
    sym step ∙ rest

pub set_more : (places : List ℕ) (i : ℕ) (flags next left : List Bool) → i < length places
    → next ≡ slice_set flags (get_or places i 0) true → set_at (drop i places) flags ≡ left
    → set_at (drop (i + 1) places) next ≡ left
set_more places i flags next left lt is rest =
    let step : set_at (drop i places) flags ≡ set_at (drop (i + 1) places) next =
    rw (is, add-one, drop-cons places i 0) refl in
    sym step ∙ rest
