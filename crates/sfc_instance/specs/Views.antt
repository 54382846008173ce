-- What a `ProgramView` shows: an instance of a plant, its tables, its steps and action control, and the variables; and what a
-- `ProgramMoment` reads over one.
use Rattle.std.specs.Prelude.{◌≡◌, cond, nat_lt, false, List, ℤ, pos}
use Rattle.sfc_expr.specs.Environment.{Environment}
use Rattle.sfc_base.specs.declared.ids.ProgId.{ProgId}
use Rattle.sfc_plant.specs.Plants.{PlantData}
use Rattle.sfc_plant.specs.Finding.{chart_of}
use Rattle.sfc_tables.specs.Tables.{Tabled, tables_of}
use Rattle.sfc_evolve.specs.Evolution.{active_steps}
use Rattle.sfc_image.specs.Agreement as image
use Rattle.sfc_image.specs.Changes.{Change}
use Rattle.sfc_image.specs.Environments.{environment_of}
use Rattle.sfc_instance.specs.declared.program_moment.ProgramMoment.{ProgramMoment}
use Rattle.sfc_instance.specs.declared.program_view.ProgramView.{ProgramView}
use Rattle.sfc_instance.specs.Life.{InstanceState, evolution_rows, latest_instant}
use Rattle.sfc_instance.specs.ProgramScan.{step_times}
use Rattle.sfc_instance.specs.Agreement.{ProgramAgrees, step_total, shown_elapsed, elapsed_at}

-- the plant, and which of its instances is shown
unfoldable pub plant_in : ProgramView → PlantData
plant_in view = view.plant.now

unfoldable pub instance_in : ProgramView → ProgId
instance_in view = view.instance

-- the tables of its chart
abbrev pub tables_in : ProgramView → Tabled
tables_in view = tables_of (chart_of (plant_in view) (instance_in view))

-- What a condition reads that is evaluated over it, for whatever was done before (`laws::window`).
unfoldable pub environment_in : ProgramView → Environment
environment_in view = record (image.environment_in view.variables) {
  time_of = λ step. cond (nat_lt step.0 (step_total view.program.now)) (shown_elapsed view.program.now step.0) (pos 0);
}

-- the window of a moment, and its instant
unfoldable pub view_of : ProgramMoment → ProgramView
view_of moment = moment.view

unfoldable pub instant_of : ProgramMoment → ℤ
instant_of moment = moment.t

-- What a condition reads that is evaluated at its instant (`laws::moment`).
unfoldable pub environment_at : ProgramMoment → Environment
environment_at moment = record (environment_in moment.view) {
  time_of = λ step.
      cond (nat_lt step.0 (step_total moment.view.program.now)) (elapsed_at moment.view.program.now moment.t step.0) (pos 0);
}

-- the steps and action control are those of an instance that stands so, and the variables those after these changes
pub record AreShown (view : ProgramView) (changes : List Change) (instance_state : InstanceState) : Type 0 where
  pub program : ProgramAgrees view.tables.now view.program.now instance_state
  pub variables : image.environment_in view.variables ≡ environment_of view.plant.now changes view.instance record {
    active = active_steps view.tables.now (evolution_rows view.tables.now instance_state.life);
    times = step_times view.tables.now instance_state.life (latest_instant instance_state.life);
    q = false;
  }

-- all answers are those of an instance that stands so, after these changes of the variables
unfoldable pub Shows : ProgramView → List Change → InstanceState → Type 0
Shows view changes instance_state = AreShown view changes instance_state
