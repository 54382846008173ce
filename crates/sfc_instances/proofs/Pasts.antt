-- What is kept is the past of the state, and what is done goes by it.
use denote.Struct.Props.{props}
use Rattle.std.proofs.Common.{◌≡◌, inl, inr, ℕ, suc, ◌+◌, ◌<◌, ◌==◌, arith, Bool, true, false, cond, List, [], ◌∷◌, length}
use Rattle.std.proofs.Common.{refl, sym, ◌∙◌, ap, subst, ℤ, Option, Some, None}
use Rattle.std.specs.Prelude.{map, All, slice_index_or, flat_map}
use Rattle.std.specs.List.{range_with_len}
use Rattle.std.proofs.lemmas.Bool.Decides.{nat_tests}
use Rattle.std.proofs.lemmas.List.{length-append}
use Rattle.std.proofs.lemmas.List.Elements.{All-head, All-tail}
use Rattle.sfc_base.specs.declared.references.GlobalId.{GlobalId}
use Rattle.sfc_base.specs.Values.{truth}
use Rattle.sfc_base.proofs.ByPlace.{at_place, mapped}
use Rattle.sfc_base.specs.declared.ids.ProgId.{ProgId}
use Rattle.sfc_base.specs.declared.ids.TaskId.{TaskId}
use Rattle.sfc_plant.specs.declared.instance.Instance.{Instance}
use Rattle.sfc_plant.specs.declared.task.Task.{Task}
use Rattle.sfc_plant.specs.Plants.{PlantData}
use Rattle.sfc_plant.specs.Image.{locals_of}
use Rattle.sfc_plant.specs.Sound.{IsPlant, IsTask, IsSingle}
use Rattle.sfc_instance.specs.sfc_image.Changes.{Change}
use Rattle.sfc_instance.specs.sfc_image.Changes as image
use Rattle.sfc_instance.specs.sfc_image.Past.{image_past}
use Rattle.sfc_instance.proofs.of_sfc_image.Pasts as variables
use Rattle.sfc_instance.proofs.of_sfc_image.Counting.{bool_cases}
use Rattle.sfc_instance.specs.declared.scan_end.ScanEnd.{ScanEnd}
use Rattle.sfc_instance.specs.declared.program.Program.{Program}
use Rattle.sfc_instance.specs.Life.{InstanceState, fresh}
use Rattle.sfc_instance.specs.Agreement.{ProgramAgrees}
use Rattle.sfc_instance.specs.Past.{instance_past}
use Rattle.sfc_instance.proofs.Pasts as programs
use Rattle.sfc_instance.proofs.Pasts.{has_tables}
use Rattle.sfc_instances.specs.declared.instances.Instances.{Instances}
use Rattle.sfc_instances.specs.PlantState.{PlantState, with_instance_state, with_change, after_program, program_scan, after_instance, after_task, after_reset}
use Rattle.sfc_instances.specs.Ends.{bit_of, bits_of}
use Rattle.sfc_instances.specs.Singles.{single_in, singles_in}
use Rattle.sfc_instances.specs.Agreement.{AreInstancesOf, InstancesAgree}
use Rattle.sfc_instances.specs.Past.{tables_at, program_past, instances_past, programs_in, past_in}

-- ---- what is kept is the past

programs_copied : (plant : PlantData) (state : PlantState) (k : ℕ) (ps : List Program)
    → ((j : ℕ) (d : Program) → j < length ps → ProgramAgrees (tables_at plant (k + j)) (slice_index_or ps j d) (state.instance_state (k + j)))
    → programs_in plant k ps ≡ map (program_past plant state) (range_with_len k (length ps))
programs_copied plant state k [] each = refl
programs_copied plant state k (p ∷ ps) each =
    let here : k + 0 ≡ k = omega arith in
    let agrees : ProgramAgrees (tables_at plant k) p (state.instance_state k) =
    subst (λ (n : ℕ). ProgramAgrees (tables_at plant n) p (state.instance_state n)) here (each 0 p (omega arith)) in
    let first = programs.keeps_past (tables_at plant k) p (state.instance_state k) agrees in
    let rest = programs_copied plant state (k + 1) ps (λ j d lt.
    let s : k + suc j ≡ k + 1 + j = omega arith in
    subst (λ (n : ℕ). ProgramAgrees (tables_at plant n) (slice_index_or ps j d) (state.instance_state n)) s (each (suc j) d (omega arith))) in
    (λ i. first i ∷ rest i)

pub keeps_past : (plant : PlantData) (instances : Instances) (state : PlantState) → AreInstancesOf plant instances → InstancesAgree plant instances state
    → past_in plant instances ≡ instances_past plant state
unfolding InstancesAgree past_in
keeps_past plant instances state sizes k =
    let changes = variables.keeps_past plant instances.image state.changes k.image in
    let each = programs_copied plant state 0 instances.programs.items (λ j d lt.
    let s : j ≡ 0 + j = omega arith in
    subst (λ (n : ℕ). ProgramAgrees (tables_at plant n) (slice_index_or instances.programs.items j d) (state.instance_state n)) s
    (k.programs j d lt)) in
    let long = sizes.instances in
    (λ i. record { variables = changes i; programs = each i })
    ∙ (λ i. record {
      variables = image_past plant state.changes;
      programs = map (program_past plant state) (range_with_len 0 (long i));
    })

-- the same pasts, one by one
pub record SameTables (plant : PlantData) (one two : PlantState) : Type 0 where
  pub changes : image_past plant one.changes ≡ image_past plant two.changes
  pub programs : (k : ℕ) → k < length plant.instances → program_past plant one k ≡ program_past plant two k

pub same_tables : (plant : PlantData) (one two : PlantState) → instances_past plant one ≡ instances_past plant two → SameTables plant one two
same_tables plant one two e = record {
  changes = ap (λ p. p.variables) e;
  programs = λ k lt. at_place (program_past plant one) (program_past plant two) (length plant.instances) k
      (instance_past (tables_at plant 0) fresh) lt (ap (λ p. p.programs) e);
}

pub past_same : (plant : PlantData) (one two : PlantState) → SameTables plant one two → instances_past plant one ≡ instances_past plant two
past_same plant one two same =
    let each = mapped (program_past plant one) (program_past plant two) (length plant.instances) same.programs in
    (λ i. record { variables = same.changes i; programs = each i })

pub same_past : (plant : PlantData) (instances : Instances) (state other : PlantState) → AreInstancesOf plant instances
    → InstancesAgree plant instances state → instances_past plant state ≡ instances_past plant other → InstancesAgree plant instances other
unfolding InstancesAgree
same_past plant instances state other sizes k e =
    let same = same_tables plant state other e in
    record {
      image = variables.same_past plant instances.image state.changes other.changes k.image same.changes;
      programs = λ j d lt.
          let long = sizes.instances in
          programs.same_past (tables_at plant j) (slice_index_or instances.programs.items j d) (state.instance_state j) (other.instance_state j)
          (k.programs j d lt) (same.programs j (omega arith));
    }

-- ---- what is done

-- the state of one instance is replaced
put_instance_state : (plant : PlantData) (k : ℕ) (a b : InstanceState) (one two : PlantState)
    → instance_past (tables_at plant k) a ≡ instance_past (tables_at plant k) b
    → ((j : ℕ) → j < length plant.instances → program_past plant one j ≡ program_past plant two j)
    → (j : ℕ) → j < length plant.instances
    → instance_past (tables_at plant j) (with_instance_state k a one.instance_state j) ≡ instance_past (tables_at plant j) (with_instance_state k b two.instance_state j)
put_instance_state plant k a b one two here others j lt = elim (bool_cases (j == k)) [
  | inl e ↦ (
      let same : j ≡ k = grind (arith, nat_tests) in
      rw e (subst (λ (n : ℕ). instance_past (tables_at plant n) a ≡ instance_past (tables_at plant n) b) (sym same) here))
  | inr e ↦ (rw e (others j lt))
]

module _ (plant : PlantData) (task : TaskId) (t : ℤ) (sound : IsPlant plant) where
  scan_same : (k : ℕ) (one two : PlantState) (lt : k < length plant.instances) → SameTables plant one two
      → programs.SameAfter plant (record { 0 = k }) (has_tables plant sound k lt) (program_scan plant t k one) (program_scan plant t k two)
  unfolding program_scan
  scan_same k one two lt same =
      programs.scan_same plant (record { 0 = k }) (has_tables plant sound k lt) (one.instance_state k) (two.instance_state k) one.changes two.changes t
      (same.programs k lt) same.changes

  instance_same : (k : ℕ) (instance : Instance) (one two : PlantState) → k < length plant.instances → SameTables plant one two
      → SameTables plant (after_instance plant task t k instance one) (after_instance plant task t k instance two)
  instance_same k instance one two lt same = by (instance.task.0 == task.0) where
    by : (b : Bool) → SameTables plant
        (cond b (after_program (record { 0 = k }) (program_scan plant t k one) one) one)
        (cond b (after_program (record { 0 = k }) (program_scan plant t k two) two) two)
    by false = same
    by true =
        let after = scan_same k one two lt same in
        record {
          changes = after.changes;
          programs = put_instance_state plant k (program_scan plant t k one).instance_state (program_scan plant t k two).instance_state one two
              after.instance_state same.programs;
        }

  tasks_same : (k : ℕ) (instances : List Instance) (one two : PlantState) → k + length instances ≡ length plant.instances
      → SameTables plant one two
      → SameTables plant (after_task plant task t k instances one) (after_task plant task t k instances two)
  tasks_same k [] one two long same = same
  tasks_same k (instance ∷ instances) one two long same =
      tasks_same (suc k) instances (after_instance plant task t k instance one) (after_instance plant task t k instance two) (omega arith)
      (instance_same k instance one two (omega arith) same)

  bits_same : (how : ScanEnd) (k : ℕ) (instances : List Instance) (one two : PlantState) → k + length instances ≡ length plant.instances
      → SameTables plant one two → bits_of how plant task t k instances one ≡ bits_of how plant task t k instances two
  bits_same how k [] one two long same = refl
  bits_same how k (instance ∷ instances) one two long same =
      let after = scan_same k one two (omega arith) same in
      let bit = ap (λ e. cond (instance.task.0 == task.0) (bit_of how k e) 0) after.scan_end in
      let rest = bits_same how (suc k) instances (after_instance plant task t k instance one) (after_instance plant task t k instance two)
      (omega arith) (instance_same k instance one two (omega arith) same) in
      (λ i. bit i + rest i)

  pub task_by : (one two : PlantState) → instances_past plant one ≡ instances_past plant two
      → instances_past plant (after_task plant task t 0 plant.instances one) ≡ instances_past plant (after_task plant task t 0 plant.instances two)
  task_by one two e =
      past_same plant (after_task plant task t 0 plant.instances one) (after_task plant task t 0 plant.instances two)
      (tasks_same 0 plant.instances one two (omega arith) (same_tables plant one two e))

  pub bits_by : (how : ScanEnd) (one two : PlantState) → instances_past plant one ≡ instances_past plant two
      → bits_of how plant task t 0 plant.instances one ≡ bits_of how plant task t 0 plant.instances two
  bits_by how one two e = bits_same how 0 plant.instances one two (omega arith) (same_tables plant one two e)

pub change_by : (plant : PlantData) (change : Change) (one two : PlantState) → instances_past plant one ≡ instances_past plant two
    → instances_past plant (with_change change one) ≡ instances_past plant (with_change change two)
change_by plant change one two e =
    let same = same_tables plant one two e in
    past_same plant (with_change change one) (with_change change two)
    record { changes = variables.past_next plant change one.changes two.changes same.changes; programs = same.programs }

pub reset_by : (plant : PlantData) (p : ProgId) (one two : PlantState) → instances_past plant one ≡ instances_past plant two
    → instances_past plant (after_reset p one) ≡ instances_past plant (after_reset p two)
reset_by plant p one two e =
    let same = same_tables plant one two e in
    past_same plant (after_reset p one) (after_reset p two)
    record {
      changes = variables.past_next plant (image.Reset p) one.changes two.changes same.changes;
      programs = put_instance_state plant p.0 fresh fresh one two refl same.programs;
    }

single_by : (plant : PlantData) (one two : List Change) (single : Option GlobalId) → IsSingle (length plant.globals) single
    → image_past plant one ≡ image_past plant two → single_in plant one single ≡ single_in plant two single
single_by plant one two None lt e = refl
single_by plant one two (Some id) lt e =
    let l = length-append plant.globals (flat_map (locals_of plant.types) plant.instances) in
    ap truth (variables.value_by plant one two e id.0 (omega arith))

singles_same : (plant : PlantData) (one two : List Change) (tasks : List Task) → All (IsTask (length plant.globals)) tasks
    → image_past plant one ≡ image_past plant two
    → map (λ (task : Task). single_in plant one task.single) tasks ≡ map (λ (task : Task). single_in plant two task.single) tasks
singles_same plant one two [] sound e = refl
singles_same plant one two (task ∷ tasks) sound e =
    let first = single_by plant one two task.single (All-head (IsTask (length plant.globals)) task tasks sound).single e in
    let rest = singles_same plant one two tasks (All-tail (IsTask (length plant.globals)) task tasks sound) e in
    (λ i. first i ∷ rest i)

pub singles_by : (plant : PlantData) (one two : PlantState) → IsPlant plant
    → instances_past plant one ≡ instances_past plant two → singles_in plant one.changes ≡ singles_in plant two.changes
singles_by plant one two sound e = singles_same plant one.changes two.changes plant.tasks sound.tasks (ap (λ p. p.variables) e)

-- it agrees in one way at most
pub agrees_prop : (plant : PlantData) (instances : Instances) (state : PlantState) → IsProp (InstancesAgree plant instances state)
unfolding InstancesAgree
agrees_prop plant instances state = hlevel (props, variables.agrees_prop, programs.agrees_prop)
