-- Declared actions that aren't executed leave all as it is.
use Rattle.std.proofs.Common.{◌≡◌, ℕ, zero, suc, ◌+◌, ◌*◌, ◌<◌, ◌≤◌, arith, Bool, false, cond, List, ◌∷◌, length, drop, ℤ, Some, Ok, ap, ◌∙◌}
use Rattle.std.specs.Prelude.{slice_get}
use Rattle.std.proofs.lemmas.List.{drop_all}
use Rattle.sfc_base.specs.declared.ids.ActionId.{ActionId}
use Rattle.sfc_base.specs.declared.ids.ProgId.{ProgId}
use Rattle.sfc_action.specs.ActionControl as control
use Rattle.sfc_image.specs.Changes.{Change}
use Rattle.sfc_plant.specs.declared.association.Target.{Target}
use Rattle.sfc_plant.specs.declared.association.Target.TheVariants.{Declared}
use Rattle.sfc_plant.specs.declared.chart.Chart.{Chart}
use Rattle.sfc_plant.specs.Plants.{PlantData}
use Rattle.sfc_plant.specs.Finding.{chart_of}
use Rattle.sfc_tables.specs.Tables.{tables_of}
use Rattle.sfc_instance.specs.Life.{Life, control_scans}
use Rattle.sfc_instance.specs.ProgramScan.{after_actions, after_body, and_then, body_in, environment}
use Rattle.sfc_instance.specs.Work.{actions_work}
use Rattle.sfc_instance.proofs.Acted.{split, work_split}

-- of the m actions from action i on each is there, and is declared
abbrev pub AreDeclared : List Target → ℕ → ℕ → Type 0
AreDeclared targets i m = (k : ℕ) → i ≤ k → k < i + m → (k < length targets) × ((id : ActionId) × (slice_get targets k ≡ Some (Declared id)))

tail_of : (targets : List Target) (i m : ℕ) → AreDeclared targets i (suc m) → AreDeclared targets (i + 1) m
tail_of targets i m all k le lt = all k (omega (arith, le)) (omega (arith, lt))

module _ (plant : PlantData) (p : ProgId) (life : Life) (t : ℤ) (targets : List Target) where
  abbrev pub is_executed : ℕ → Bool
  is_executed a = control.executed (tables_of (chart_of plant p)) a (control_scans (tables_of (chart_of plant p)) life)

  -- one of them
  one : (a : ℕ) (id : ActionId) (rest : List Target) (changes : List Change) → is_executed a ≡ false
      → after_actions plant p life t a (Declared id ∷ rest) changes ≡ after_actions plant p life t (suc a) rest changes
  one a id rest changes off =
      let scans = control_scans (tables_of (chart_of plant p)) life in
      let q = control.q (tables_of (chart_of plant p)) a scans in
      let body = body_in (slice_get (chart_of plant p).actions id.0) in
      ap (λ (b : Bool). and_then (cond b (after_body plant p changes id body (environment plant p life changes t q)) (Ok changes))
      (λ after. after_actions plant p life t (suc a) rest after)) off

  -- m of them, of which none is executed
  pub skipped : (i m : ℕ) → AreDeclared targets i m → ((k : ℕ) → i ≤ k → k < i + m → is_executed k ≡ false) → (changes : List Change)
      → after_actions plant p life t i (drop i targets) changes ≡ after_actions plant p life t (i + m) (drop (i + m) targets) changes
  skipped i zero all off changes =
      let same : i ≡ i + 0 = omega arith in
      ap (λ (k : ℕ). after_actions plant p life t k (drop k targets) changes) same
  skipped i (suc m) all off changes =
      let here = all i (omega arith) (omega arith) in
      let id = here.1.0 in
      let next : suc i ≡ i + 1 = omega arith in
      let last : i + 1 + m ≡ i + suc m = omega arith in
      ap (λ (ts : List Target). after_actions plant p life t i ts changes) (split targets i (Declared id) here.0 here.1.1)
      ∙ one i id (drop (i + 1) targets) changes (off i (omega arith) (omega arith))
      ∙ ap (λ (k : ℕ). after_actions plant p life t k (drop (i + 1) targets) changes) next
      ∙ skipped (i + 1) m (tail_of targets i m all) (λ k le lt. off k (omega (arith, le)) (omega (arith, lt))) changes
      ∙ ap (λ (k : ℕ). after_actions plant p life t k (drop k targets) changes) last

  -- where these are all that are left
  pub none_left : (i m : ℕ) → length targets ≤ i + m → AreDeclared targets i m → ((k : ℕ) → i ≤ k → k < i + m → is_executed k ≡ false)
      → (changes : List Change) → after_actions plant p life t i (drop i targets) changes ≡ Ok changes
  none_left i m le all off changes =
      skipped i m all off changes ∙ ap (λ (ts : List Target). after_actions plant p life t (i + m) ts changes) (drop_all (i + m) targets le)

-- each of them handles two at least
pub work_skipped : (chart : Chart) (targets : List Target) (i m : ℕ) → AreDeclared targets i m
    → 2 * m + actions_work chart (drop (i + m) targets) ≤ actions_work chart (drop i targets)
work_skipped chart targets i zero all =
    let same : i + 0 ≡ i = omega arith in
    omega (arith, ap (λ (k : ℕ). actions_work chart (drop k targets)) same)
work_skipped chart targets i (suc m) all =
    let here = all i (omega arith) (omega arith) in
    let last : i + 1 + m ≡ i + suc m = omega arith in
    omega (
      arith,
      work_split targets i (Declared here.1.0) chart here.0 here.1.1,
      work_skipped chart targets (i + 1) m (tail_of targets i m all),
      ap (λ (k : ℕ). actions_work chart (drop k targets)) last,
    )
