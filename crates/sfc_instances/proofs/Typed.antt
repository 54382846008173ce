-- What is done gives variables values of their types.
use Rattle.std.proofs.Common.{◌<◌, ◌≤◌, ◌+◌, ◌==◌, arith, ℕ, suc, Bool, true, false, cond, ℤ, List, [], ◌∷◌, length}
use Rattle.std.proofs.lemmas.List.Elements.{All-nil, All-cons}
use Rattle.sfc_base.specs.declared.ids.ProgId.{ProgId}
use Rattle.sfc_base.specs.declared.ids.TaskId.{TaskId}
use Rattle.sfc_plant.specs.declared.instance.Instance.{Instance}
use Rattle.sfc_plant.specs.Plants.{PlantData}
use Rattle.sfc_instance.specs.sfc_image.Changes as image
use Rattle.sfc_instance.specs.sfc_image.Types.{GivesType}
use Rattle.sfc_instance.specs.Life.{Row, InstanceState, fresh}
use Rattle.sfc_instance.specs.Types.{IsInstant, AreInstants}
use Rattle.sfc_instance.proofs.Typed.{scan_typed, scan_instants}
use Rattle.sfc_instances.specs.PlantState.{PlantState, opened, with_change, after_program, program_scan}
use Rattle.sfc_instances.specs.PlantState.{after_instance, after_task, after_reset}
use Rattle.sfc_instances.specs.Types.{IsTypedPlant, IsTypedState}

with_instants : (b : Bool) (one other : InstanceState) → AreInstants one.life → AreInstants other.life
    → AreInstants (cond b one other).life
with_instants true one other h g = h
with_instants false one other h g = g

no_scan : AreInstants []
no_scan = All-nil (λ (row : Row). IsInstant row.at)

module _ (plant : PlantData) where
  pub opened_typed : IsTypedState plant opened
  opened_typed = record { given = All-nil (GivesType plant); instants = λ k. no_scan }

  pub change_typed : (change : image.Change) (state : PlantState) → GivesType plant change → IsTypedState plant state
      → IsTypedState plant (with_change change state)
  change_typed change state gives typed = record {
    given = All-cons (GivesType plant) change state.changes gives typed.given;
    instants = typed.instants;
  }

  pub reset_typed : (p : ProgId) (state : PlantState) → IsTypedState plant state → IsTypedState plant (after_reset p state)
  reset_typed p state typed = record {
    given = All-cons (GivesType plant) (image.Reset p) state.changes tt typed.given;
    instants = λ j. with_instants (j == p.0) fresh (state.instance_state j) no_scan (typed.instants j);
  }

  module _ (sound : IsTypedPlant plant) (task : TaskId) (t : ℤ) (here : IsInstant t) where
    program_typed : (k : ℕ) (state : PlantState) → k < length plant.instances → IsTypedState plant state
        → IsTypedState plant (after_program (record { 0 = k }) (program_scan plant t k state) state)
    unfolding program_scan
    program_typed k state lt typed = record {
      given = scan_typed plant (record { 0 = k }) sound.begins (sound.instances k lt) (state.instance_state k) state.changes t
          (typed.instants k) here typed.given;
      instants = λ j. with_instants (j == k) (program_scan plant t k state).instance_state (state.instance_state j)
          (scan_instants plant (record { 0 = k }) (state.instance_state k) state.changes t (typed.instants k) here) (typed.instants j);
    }

    either_typed : (b : Bool) (one other : PlantState) → IsTypedState plant one → IsTypedState plant other
        → IsTypedState plant (cond b one other)
    either_typed true one other h g = h
    either_typed false one other h g = g

    instances_typed : (k : ℕ) (instances : List Instance) (state : PlantState) → k + length instances ≤ length plant.instances
        → IsTypedState plant state → IsTypedState plant (after_task plant task t k instances state)
    instances_typed k [] state le typed = typed
    instances_typed k (instance ∷ instances) state le typed =
        instances_typed (suc k) instances (after_instance plant task t k instance state) (omega arith)
        (either_typed (instance.task.0 == task.0) (after_program (record { 0 = k }) (program_scan plant t k state) state) state
        (program_typed k state (omega arith) typed) typed)

    pub task_typed : (state : PlantState) → IsTypedState plant state → IsTypedState plant (after_task plant task t 0 plant.instances state)
    task_typed state typed = instances_typed 0 plant.instances state (omega arith) typed
