-- Which SINGLE rises, one after the other.
use Rattle.std.proofs.Common.{◌≡◌, ◌∙◌, ℕ, zero, suc, ◌<◌, Bool, true, false, cond, List, [], ◌∷◌, drop, take, get_or, length, refl, sym, ap, subst, ℤ}
use Rattle.std.proofs.Math.Seq.{drop-cons}
use Rattle.std.specs.Prelude.{not, ◌&&◌}
use Rattle.sfc_plant.specs.declared.task.Task.{Task}
use Rattle.sfc_tasks.specs.Calls.{Call, Rose}
use Rattle.sfc_tasks.specs.Agreement.{TasksAgree}
use Rattle.sfc_tasks.specs.declared.table.TaskTable.{TaskTable}
use Rattle.sfc_core.specs.Due.{with_rise, with_rises}
use Rattle.sfc_core.specs.Private.Rising.{Rises}

no_rise : (t : ℤ) (k : ℕ) (x y : Bool) (calls : List Call) → y ≡ false → with_rise t k x y calls ≡ calls
no_rise t k true y calls e = refl
no_rise t k false true calls e = absurd cc
no_rise t k false false calls e = refl

-- where each SINGLE reads FALSE after it
pub none_rises : (t : ℤ) (k : ℕ) (before after : List Bool) (calls : List Call) → ((j : ℕ) → get_or after j false ≡ false)
    → with_rises t k before after calls ≡ calls
none_rises t k [] after calls off = refl
none_rises t k (x ∷ before) [] calls off = refl
none_rises t k (x ∷ before) (y ∷ after) calls off =
    ap (λ (now : List Call). with_rises t (suc k) before after now) (no_rise t k x y calls (off 0))
    ∙ none_rises t (suc k) before after calls (λ j. off (suc j))

-- the first of such flags are so too
pub none_of_first : (n : ℕ) (flags : List Bool) → ((j : ℕ) → get_or flags j false ≡ false) → (j : ℕ) → get_or (take n flags) j false ≡ false
none_of_first zero flags off j = refl
none_of_first (suc n) [] off j = refl
none_of_first (suc n) (x ∷ flags) off zero = off 0
none_of_first (suc n) (x ∷ flags) off (suc j) = none_of_first n flags (λ i. off (suc i)) j

module _ (t : ℤ) (before after : List Bool) (k : ℕ) (lt : k < length before) (lt_after : k < length after) where
  -- one SINGLE further
  rise_step : (now : List Call)
      → with_rises t (suc k) (drop (suc k) before) (drop (suc k) after) (with_rise t k (get_or before k false) (get_or after k false) now)
      ≡ with_rises t k (drop k before) (drop k after) now
  rise_step now =
      sym (ap (λ (xs : List Bool). with_rises t k xs (drop k after) now) (drop-cons before k false lt)
      ∙ ap (λ (ys : List Bool). with_rises t k (get_or before k false ∷ drop (suc k) before) ys now) (drop-cons after k false lt_after))

  further : (all : List Task) (calls : List Call) (old new : TaskTable) (h : Rises all t before after calls k old)
      → TasksAgree all new (with_rise t k (get_or before k false) (get_or after k false) h.now)
      → Rises all t before after calls (suc k) new
  further all calls old new h agrees = record {
    now = with_rise t k (get_or before k false) (get_or after k false) h.now;
    agrees = agrees;
    rest = rise_step h.now ∙ h.rest;
  }

  -- it rose
  pub risen : (all : List Task) (calls : List Call) (old new : TaskTable) (b : Bool)
      → b ≡ (not (get_or before k false) && get_or after k false) → b ≡ true
      → ((now : List Call) → TasksAgree all old now → TasksAgree all new (Rose (record { 0 = k }) t ∷ now))
      → Rises all t before after calls k old → Rises all t before after calls (suc k) new
  risen all calls old new b e on goes_on h =
      let rise : Rose (record { 0 = k }) t ∷ h.now ≡ with_rise t k (get_or before k false) (get_or after k false) h.now =
      ap (λ (b : Bool). cond b (Rose (record { 0 = k }) t ∷ h.now) h.now) (sym on ∙ e) in
      further all calls old new h (subst (λ (now : List Call). TasksAgree all new now) rise (goes_on h.now h.agrees))

  -- it did not
  pub unrisen : (all : List Task) (calls : List Call) (tasks : TaskTable) (b : Bool)
      → b ≡ (not (get_or before k false) && get_or after k false) → b ≡ false
      → Rises all t before after calls k tasks → Rises all t before after calls (suc k) tasks
  unrisen all calls tasks b e off h =
      let rise : h.now ≡ with_rise t k (get_or before k false) (get_or after k false) h.now =
      ap (λ (b : Bool). cond b (Rose (record { 0 = k }) t ∷ h.now) h.now) (sym off ∙ e) in
      further all calls tasks tasks h (subst (λ (now : List Call). TasksAgree all tasks now) rise h.agrees)
