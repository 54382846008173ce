-- The Boolean actions come first, and their variables are assigned all at once.
use Rattle.std.proofs.Common.{◌≡◌, ℕ, zero, suc, ◌+◌, ◌-◌, ◌<◌, ◌≤◌, ◌++◌, ◌∷◌, [], arith, Bool, List, length, get_or, drop, ℤ, Some, refl, sym, ap, subst, ◌∙◌, append_assoc}
use Rattle.std.specs.Prelude.{map, slice_get}
use Rattle.std.specs.List.{range_with_len}
use Rattle.std.proofs.lemmas.List.{length-append, length-map, get_or-append-add}
use Rattle.std.proofs.lemmas.List.FromFn.{length-map-range_with_len, get_or-map-range_with_len}
use Rattle.std.proofs.lemmas.List.Sums.{sum_by-cons}
use Rattle.std.proofs.lemmas.Option.{slice_get-get_or}
use Rattle.std.proofs.Math.Seq.{drop-append_seam}
use Rattle.sfc_base.specs.declared.value.Value.TheVariants as value
use Rattle.sfc_base.specs.declared.references.Variable.{Variable}
use Rattle.sfc_flags.specs.Flags.{flag}
use Rattle.sfc_plant.specs.declared.action.Action.{Action}
use Rattle.sfc_base.specs.declared.ids.ActionId.{ActionId}
use Rattle.sfc_plant.specs.declared.association.Target.{Target}
use Rattle.sfc_plant.specs.declared.association.Target.TheVariants.{Boolean, Declared}
use Rattle.sfc_plant.specs.declared.chart.Chart.{Chart}
use Rattle.sfc_tables.specs.Actions.{boolean_actions, declared_actions}
use Rattle.sfc_tables.specs.Tables.{Tabled, tables_of}
use Rattle.sfc_action.specs.ActionControl as control
use Rattle.sfc_base.specs.declared.ids.ProgId.{ProgId}
use Rattle.sfc_plant.specs.Plants.{PlantData}
use Rattle.sfc_plant.specs.Finding.{chart_of}
use Rattle.sfc_image.specs.Changes.{Change}
use Rattle.sfc_image.specs.Bodies.{assignment}
use Rattle.sfc_image.specs.Outputs.{outputs}
use Rattle.sfc_instance.specs.Life.{Life, control_scans}
use Rattle.sfc_instance.specs.ProgramScan.{after_actions}
use Rattle.sfc_instance.specs.Work.{action_work, actions_work}

abbrev pub action_id : ℕ → ActionId
action_id i = record { 0 = i }

abbrev pub declared : ℕ → Target
declared i = Declared (action_id i)

abbrev booleans : List Variable → List Target
booleans vs = map (λ v. Boolean v) vs

-- ---- the numbers of the declared actions

-- how many actions there are
pub actions_long : (chart : Chart) → length (tables_of chart).actions ≡ length (boolean_actions chart) + length chart.actions
actions_long chart =
    let vs = boolean_actions chart in
    omega (
      arith,
      length-append (booleans vs) (declared_actions (length chart.actions)),
      length-map vs (λ v. Boolean v),
      length-map-range_with_len declared 0 (length chart.actions),
    )

-- the declared ones among them
pub all_declared : (tables : Tabled) (chart : Chart) → tables ≡ tables_of chart → length chart.actions ≤ length tables.actions
all_declared tables chart made =
    let long : length tables.actions ≡ length (tables_of chart).actions = ap (λ (x : Tabled). length x.actions) made in
    omega (arith, long, actions_long chart)

-- where this many actions are declared, the others are Boolean
module _ (chart : Chart) (first : ℕ) (count : first + length chart.actions ≡ length (tables_of chart).actions) where
  first_is : length (booleans (boolean_actions chart)) ≡ first
  first_is = omega (arith, count, actions_long chart, length-map (boolean_actions chart) (λ v. Boolean v))

  -- the declared ones follow them
  declared_last : drop first (tables_of chart).actions ≡ declared_actions (length chart.actions)
  declared_last =
      subst (λ (n : ℕ). drop n (tables_of chart).actions ≡ declared_actions (length chart.actions)) first_is
      (drop-append_seam (booleans (boolean_actions chart)) (declared_actions (length chart.actions)))

  -- each by its place among the declared ones
  declared_next : (k : ℕ) → k < length chart.actions → slice_get (tables_of chart).actions (first + k) ≡ Some (declared k)
  declared_next k lt =
      let all = (tables_of chart).actions in
      let here : first + k < length all = omega (arith, lt, count) in
      slice_get-get_or all (first + k) (declared k) here
      ∙ ap (λ (x : Target). Some x)
      (ap (λ (n : ℕ). get_or all (n + k) (declared k)) (sym first_is)
      ∙ get_or-append-add (booleans (boolean_actions chart)) (declared_actions (length chart.actions)) k (declared k)
      ∙ get_or-map-range_with_len declared 0 (length chart.actions) k k (declared k) lt (omega arith))

-- where there are n actions, and these are the declared ones
module _ (tables : Tabled) (chart : Chart) (n : ℕ) (actions : List Action) (made : tables ≡ tables_of chart)
    (all : n ≡ length tables.actions) (same : actions ≡ chart.actions) where
  -- so many are before the first declared one
  pub counted : n - length actions + length chart.actions ≡ length tables.actions
  counted = omega (arith, all, ap (λ (xs : List Action). length xs) same, all_declared tables chart made)

  -- what has this number
  pub declared_at : (i : ℕ) → n - length actions ≤ i → i < n
      → (i < length tables.actions) × (slice_get tables.actions i ≡ Some (declared (i - (n - length actions))))
  declared_at i le lt =
      let first = n - length actions in
      let count : first + length chart.actions ≡ length (tables_of chart).actions =
      subst (λ (x : Tabled). first + length chart.actions ≡ length x.actions) made counted in
      let here : first + (i - first) ≡ i = omega (arith, le) in
      let within : i - first < length chart.actions = omega (arith, le, lt, counted, all) in (
        omega (arith, lt, all),
        ap (λ (x : Tabled). slice_get x.actions i) made
            ∙ ap (slice_get (tables_of chart).actions) (sym here)
            ∙ declared_next chart first count (i - first) within,
      )

-- ---- what they do

-- a declared action assigns nothing
no_outputs : (plant : PlantData) (p : ProgId) (flags : List Bool) (a b m : ℕ)
    → outputs plant p flags a (map declared (range_with_len b m)) ≡ []
no_outputs plant p flags a b zero = refl
no_outputs plant p flags a b (suc m) = ap (λ (changes : List Change). changes ++ []) (no_outputs plant p flags (suc a) (b + 1) m)

module _ (plant : PlantData) (p : ProgId) (life : Life) (t : ℤ) (flags : List Bool) (n : ℕ) where
  abbrev HaveQ : Tabled → Type 0
  HaveQ tables = (k : ℕ) → k < n → flag flags k ≡ control.q tables k (control_scans tables life)

  -- first these Boolean actions, of which the first has number a, one after the other, and then those that assign nothing
  after_booleans : HaveQ (tables_of (chart_of plant p)) → (ds : List Target) → ((a : ℕ) → outputs plant p flags a ds ≡ [])
      → (a : ℕ) (vs : List Variable) (changes : List Change) → a + length vs ≤ n
      → after_actions plant p life t a (booleans vs ++ ds) changes
      ≡ after_actions plant p life t (a + length vs) ds (outputs plant p flags a (booleans vs ++ ds) ++ changes)
  after_booleans each ds none a [] changes le =
      let here : a ≡ a + 0 = omega arith in
      ap (λ (k : ℕ). after_actions plant p life t k ds changes) here
      ∙ ap (λ (done : List Change). after_actions plant p life t (a + 0) ds (done ++ changes)) (sym (none a))
  after_booleans each ds none a (v ∷ vs) changes le =
      let lt : a < n = omega (arith, le) in
      let less : suc a + length vs ≤ n = omega (arith, le) in
      let there : suc a + length vs ≡ a + suc (length vs) = omega arith in
      let rest : List Target = booleans vs ++ ds in
      let assigned : Bool → List Change = λ q. assignment plant p v (value.Bool q) in
      ap (λ (q : Bool). after_actions plant p life t (suc a) rest (assigned q ++ changes)) (sym (each a lt))
      ∙ after_booleans each ds none (suc a) vs (assigned (flag flags a) ++ changes) less
      ∙ ap (λ (k : ℕ). after_actions plant p life t k ds (outputs plant p flags (suc a) rest ++ (assigned (flag flags a) ++ changes))) there
      ∙ ap (after_actions plant p life t (a + suc (length vs)) ds)
      (sym (append_assoc (outputs plant p flags (suc a) rest) (assigned (flag flags a)) changes))

  after_all : (first : ℕ) → first + length (chart_of plant p).actions ≡ length (tables_of (chart_of plant p)).actions
      → length (tables_of (chart_of plant p)).actions ≤ n → HaveQ (tables_of (chart_of plant p)) → (changes : List Change)
      → after_actions plant p life t first (drop first (tables_of (chart_of plant p)).actions)
      (outputs plant p flags 0 (tables_of (chart_of plant p)).actions ++ changes)
      ≡ after_actions plant p life t 0 (tables_of (chart_of plant p)).actions changes
  after_all first count le each changes =
      let chart = chart_of plant p in
      let vs = boolean_actions chart in
      let ds = declared_actions (length chart.actions) in
      let all = (tables_of chart).actions in
      let many : 0 + length vs ≡ first = omega (arith, count, actions_long chart) in
      let less : 0 + length vs ≤ n = omega (arith, le, actions_long chart) in
      ap (λ (ts : List Target). after_actions plant p life t first ts (outputs plant p flags 0 all ++ changes)) (declared_last chart first count)
      ∙ sym (after_booleans each ds (λ a. no_outputs plant p flags a 0 (length chart.actions)) 0 vs changes less
      ∙ ap (λ (k : ℕ). after_actions plant p life t k ds (outputs plant p flags 0 all ++ changes)) many)

  -- from the first declared action on, where the Boolean ones are assigned already
  pub outputs_first : (tables : Tabled) → tables ≡ tables_of (chart_of plant p) → (first : ℕ)
      → first + length (chart_of plant p).actions ≡ length tables.actions → length tables.actions ≤ n
      → HaveQ tables → (changes : List Change)
      → after_actions plant p life t first (drop first tables.actions) (outputs plant p flags 0 tables.actions ++ changes)
      ≡ after_actions plant p life t 0 tables.actions changes
  outputs_first tables made =
      subst (λ (x : Tabled). (first : ℕ) → first + length (chart_of plant p).actions ≡ length x.actions → length x.actions ≤ n
      → HaveQ x → (changes : List Change)
      → after_actions plant p life t first (drop first x.actions) (outputs plant p flags 0 x.actions ++ changes)
      ≡ after_actions plant p life t 0 x.actions changes) (sym made) after_all

-- ---- how much is left

-- each action handles at least its Q
pub work_left : (chart : Chart) (targets : List Target) (i : ℕ) → length targets ≤ i + actions_work chart (drop i targets)
work_left chart [] i = omega arith
work_left chart (x ∷ xs) zero = omega (arith, work_left chart xs 0, sum_by-cons (action_work chart) x xs, some_work chart x)
  where
    some_work : (chart : Chart) (x : Target) → 1 ≤ action_work chart x
    some_work chart (Boolean v) = omega arith
    some_work chart (Declared id) = omega arith
work_left chart (x ∷ xs) (suc i) = omega (arith, work_left chart xs i)

-- Boolean actions handle their Q alone
pub boolean_work : (chart : Chart) (vs : List Variable) (ds : List Target)
    → actions_work chart (booleans vs ++ ds) ≡ length vs + actions_work chart ds
boolean_work chart [] ds = omega arith
boolean_work chart (v ∷ vs) ds = omega (arith, boolean_work chart vs ds, sum_by-cons (action_work chart) (Boolean v) (booleans vs ++ ds))

pub work_first : (tables : Tabled) (chart : Chart) (first : ℕ) → tables ≡ tables_of chart → first + length chart.actions ≡ length tables.actions
    → actions_work chart tables.actions ≡ first + actions_work chart (drop first tables.actions)
work_first tables chart first made =
    subst (λ (x : Tabled). first + length chart.actions ≡ length x.actions
    → actions_work chart x.actions ≡ first + actions_work chart (drop first x.actions)) (sym made) of_chart
  where
    of_chart : first + length chart.actions ≡ length (tables_of chart).actions
        → actions_work chart (tables_of chart).actions ≡ first + actions_work chart (drop first (tables_of chart).actions)
    of_chart count =
        let vs = boolean_actions chart in
        let many : length vs ≡ first = omega (arith, count, actions_long chart) in
        boolean_work chart vs (declared_actions (length chart.actions))
        ∙ ap (λ (n : ℕ). n + actions_work chart (declared_actions (length chart.actions))) many
        ∙ ap (λ (ts : List Target). first + actions_work chart ts) (sym (declared_last chart first count))
