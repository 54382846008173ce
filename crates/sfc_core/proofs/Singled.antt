-- What SINGLE reads where no task has one.
use Rattle.std.proofs.Common.{◌≡◌, ◌∙◌, ℕ, zero, suc, ◌≤◌, arith, Bool, false, List, [], ◌∷◌, take, map, get_or, length, refl, sym, ap, Option, Some, None}
use Rattle.std.specs.Prelude.{is_some}
use Rattle.sfc_base.specs.declared.references.GlobalId.{GlobalId}
use Rattle.sfc_plant.specs.declared.task.Task.{Task}
use Rattle.sfc_plant.specs.Plants.{PlantData}
use Rattle.sfc_instances.specs.sfc_image.Changes.{Change}
use Rattle.sfc_instances.specs.Singles.{single_in}
use Rattle.sfc_core.specs.Private.Alone.{HaveNoSingle}

-- so many flags that are FALSE
abbrev pub all_false : ℕ → List Bool
all_false zero = []
all_false (suc n) = false ∷ all_false n

pub all_off : (n j : ℕ) → get_or (all_false n) j false ≡ false
all_off zero j = refl
all_off (suc n) zero = refl
all_off (suc n) (suc j) = all_off n j

no_single : (plant : PlantData) (changes : List Change) (single : Option GlobalId) → is_some single ≡ false
    → single_in plant changes single ≡ false
no_single plant changes None e = refl
no_single plant changes (Some id) e = absurd cc

-- flags that are FALSE are what is read
pub none_read : (plant : PlantData) (changes : List Change) (tasks : List Task) (flags : List Bool)
    → ((j : ℕ) → get_or flags j false ≡ false) → length tasks ≤ length flags → HaveNoSingle tasks
    → take (length tasks) flags ≡ map (λ (task : Task). single_in plant changes task.single) tasks
none_read plant changes [] flags off le none = refl
none_read plant changes (task ∷ tasks) [] off le none = absurd (omega (arith, le))
none_read plant changes (task ∷ tasks) (x ∷ flags) off le none =
    let same : x ≡ single_in plant changes task.single = off 0 ∙ sym (no_single plant changes task.single (none 0 task (omega arith))) in
    let rest = none_read plant changes tasks flags (λ j. off (suc j)) (omega (arith, le)) (λ k d lt. none (suc k) d (omega (arith, lt))) in
    ap (λ (b : Bool). b ∷ take (length tasks) flags) same ∙ ap (λ (bs : List Bool). single_in plant changes task.single ∷ bs) rest

-- so are they where there is one for each task
pub none_read_all : (plant : PlantData) (changes : List Change) (tasks : List Task) (flags : List Bool)
    → ((j : ℕ) → get_or flags j false ≡ false) → length flags ≡ length tasks → HaveNoSingle tasks
    → flags ≡ map (λ (task : Task). single_in plant changes task.single) tasks
none_read_all plant changes [] [] off e none = refl
none_read_all plant changes [] (x ∷ flags) off e none = absurd (omega (arith, e))
none_read_all plant changes (task ∷ tasks) [] off e none = absurd (omega (arith, e))
none_read_all plant changes (task ∷ tasks) (x ∷ flags) off e none =
    let same : x ≡ single_in plant changes task.single = off 0 ∙ sym (no_single plant changes task.single (none 0 task (omega arith))) in
    let rest = none_read_all plant changes tasks flags (λ j. off (suc j)) (omega (arith, e)) (λ k d lt. none (suc k) d (omega (arith, lt))) in
    ap (λ (b : Bool). b ∷ flags) same ∙ ap (λ (bs : List Bool). single_in plant changes task.single ∷ bs) rest
