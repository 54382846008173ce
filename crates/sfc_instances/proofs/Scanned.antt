-- What the instances keep of a scan of one of them.
use Rattle.std.proofs.Common.{◌≡◌, inl, inr, ℕ, ◌<◌, arith, Bool, cond, List, length, map, get_or, slice_set, sym, ◌∙◌, ap, subst}
use Rattle.std.proofs.lemmas.Bool.Decides.{eqb_tells}
use Rattle.std.proofs.lemmas.List.{get_or-set_same, get_or-set_other, get_or-map, length-set}
use Rattle.std.proofs.lemmas.Option.{slice_get-get_or}
use Rattle.std.specs.Vec.{with_item}
use Rattle.sfc_base.specs.declared.ticks.Ticks.{Ticks}
use Rattle.sfc_base.specs.Ticks.{Within}
use Rattle.sfc_plant.specs.declared.chart.Chart.{Chart}
use Rattle.sfc_instance.specs.sfc_tables.Tables.{Tabled, tables_of}
use Rattle.sfc_plant.specs.declared.program_type.ProgramType.{ProgramType}
use Rattle.sfc_base.specs.declared.ids.ProgId.{ProgId}
use Rattle.sfc_plant.specs.declared.instance.Instance.{Instance}
use Rattle.sfc_plant.specs.Plants.{PlantData}
use Rattle.sfc_plant.specs.Sound.{IsPlant}
use Rattle.sfc_instance.specs.sfc_image.declared.image.Image.{Image}
use Rattle.sfc_instance.specs.sfc_image.Changes.{settled}
use Rattle.sfc_instance.specs.sfc_image.Agreement.{ImageAgrees}
use Rattle.sfc_instance.specs.sfc_image.Values.{variable_count}
use Rattle.sfc_instance.specs.declared.program.Program.{Program}
use Rattle.sfc_instance.specs.Agreement.{ProgramAgrees}
use Rattle.sfc_instance.specs.Life.{InstanceState}
use Rattle.sfc_instance.specs.ProgramScan.{After}
use Rattle.sfc_instance.specs.Work.{scan_work}
use Rattle.sfc_plant.specs.Finding.{chart_in, chart_among, chart_of}
use Rattle.sfc_instances.specs.declared.instances.Instances.{Instances}
use Rattle.sfc_instances.specs.Agreement.{ProgramsAgree, InstancesKeep}
use Rattle.sfc_instances.specs.Work.{program_work}
use Rattle.sfc_instances.specs.PlantState.{PlantState, with_instance_state, after_program}

module _ (plant : PlantData) (sound : IsPlant plant) (p : ProgId) (lt : p.0 < length plant.instances) (instances : List Instance)
    (types : List ProgramType) (i : Instance) (type : ProgramType) (e : instances ≡ plant.instances) (f : types ≡ plant.types) where
  same : (get_or instances p.0 i).program.0 ≡ (get_or plant.instances p.0 i).program.0
  same = ap (λ (xs : List Instance). (get_or xs p.0 i).program.0) e

  within : (get_or plant.instances p.0 i).program.0 < length plant.types
  within = (sound.instances p.0 i lt).program

  -- the chart that is read for the instance
  pub chart_at : (get_or types (get_or instances p.0 i).program.0 type).chart ≡ chart_of plant p
  chart_at =
      ap (λ (xs : List ProgramType). (get_or xs (get_or instances p.0 i).program.0 type).chart) f
      ∙ ap (λ (n : ℕ). (get_or plant.types n type).chart) same
      ∙ sym (ap (chart_among plant.types) (slice_get-get_or plant.instances p.0 i lt)
      ∙ ap chart_in (slice_get-get_or plant.types (get_or plant.instances p.0 i).program.0 type within))

  -- the tables that are read for it
  pub tables_at : (tables : List Tabled) (tabled : Tabled) → tables ≡ map (λ (x : ProgramType). tables_of x.chart) plant.types
      → tabled ≡ get_or tables (get_or instances p.0 i).program.0 tabled
      → tabled ≡ tables_of (get_or types (get_or instances p.0 i).program.0 type).chart
  tables_at tables tabled g is =
      is ∙ ap (λ (xs : List Tabled). get_or xs (get_or instances p.0 i).program.0 tabled) g
      ∙ ap (λ (n : ℕ). get_or (map (λ (x : ProgramType). tables_of x.chart) plant.types) n tabled) same
      ∙ get_or-map (λ (x : ProgramType). tables_of x.chart) plant.types (get_or plant.instances p.0 i).program.0 type tabled within
      ∙ ap (λ (n : ℕ). tables_of (get_or plant.types n type).chart) (sym same)
      ∙ ap (λ (xs : List ProgramType). tables_of (get_or xs (get_or instances p.0 i).program.0 type).chart) (sym f)

-- one program is replaced, and stands so
kept_beside : (plant : PlantData) (programs : List Program) (k : ℕ) (program : Program) (instance_state : InstanceState) (state : PlantState)
    → k < length programs → ProgramAgrees (tables_of (chart_of plant (record { 0 = k }))) program instance_state
    → ProgramsAgree plant programs state → (j : ℕ) (d : Program) → j < length (slice_set programs k program)
    → ProgramAgrees (tables_of (chart_of plant (record { 0 = j }))) (get_or (slice_set programs k program) j d)
    (with_instance_state k instance_state state.instance_state j)
kept_beside plant programs k program instance_state state lt new old j d jlt =
    elim (eqb_tells j k) as (λ _. ProgramAgrees (tables_of (chart_of plant (record { 0 = j })))
    (get_or (slice_set programs k program) j d) (with_instance_state k instance_state state.instance_state j)) [
      | inl w ↦
          let here : get_or (slice_set programs k program) j d ≡ program =
          ap (λ (i : ℕ). get_or (slice_set programs k program) i d) w.1 ∙ get_or-set_same programs k program d lt in
          let stands : with_instance_state k instance_state state.instance_state j ≡ instance_state =
          ap (λ (b : Bool). cond b instance_state (state.instance_state j)) w.0 in
          subst (λ (x : Program). ProgramAgrees (tables_of (chart_of plant (record { 0 = j }))) x
          (with_instance_state k instance_state state.instance_state j)) (sym here)
          (subst (λ (s : InstanceState). ProgramAgrees (tables_of (chart_of plant (record { 0 = j }))) program s) (sym stands)
          (subst (λ (i : ℕ). ProgramAgrees (tables_of (chart_of plant (record { 0 = i }))) program instance_state) (sym w.1) new))
      | inr w ↦
          let there : get_or (slice_set programs k program) j d ≡ get_or programs j d =
          get_or-set_other programs k j program d w.1 in
          let stands : with_instance_state k instance_state state.instance_state j ≡ state.instance_state j =
          ap (λ (b : Bool). cond b instance_state (state.instance_state j)) w.0 in
          subst (λ (x : Program). ProgramAgrees (tables_of (chart_of plant (record { 0 = j }))) x
          (with_instance_state k instance_state state.instance_state j)) (sym there)
          (subst (λ (s : InstanceState). ProgramAgrees (tables_of (chart_of plant (record { 0 = j }))) (get_or programs j d) s)
          (sym stands) (old j d (omega (arith, length-set programs k program))))
    ]

module _ (plant : PlantData) (instances : Instances) (state : PlantState) (p : ProgId) (tabled : Tabled)
    (lt : p.0 < length instances.programs.items) (at : tabled ≡ tables_of (chart_of plant p)) (h : InstancesKeep plant instances state) where
  -- how its program agrees before the scan
  pub agreed : (program : Program) → program ≡ get_or instances.programs.items p.0 program
      → ProgramAgrees tabled program (state.instance_state p.0)
  agreed program is =
      subst (λ (x : Tabled). ProgramAgrees x program (state.instance_state p.0)) (sym at)
      (subst (λ (x : Program). ProgramAgrees (tables_of (chart_of plant p)) x (state.instance_state p.0)) (sym is)
      (h.programs p.0 program lt))

  -- and the instances after it
  pub agrees_on : (image : Image) (program : Program) (after : After) → ProgramAgrees tabled program after.instance_state
      → ImageAgrees plant image (settled after.changes)
      → InstancesKeep plant (record {
        tables = instances.tables;
        image = image;
        programs = with_item instances.programs p.0 program;
      }) (after_program p after state)
  agrees_on image program after agrees changed = record {
    image = changed;
    programs =
        kept_beside plant instances.programs.items p.0 program after.instance_state state lt
        (subst (λ (x : Tabled). ProgramAgrees x program after.instance_state) at agrees) h.programs;
  }

-- what the scan handles
pub same_work : (plant : PlantData) (p : ProgId) (tabled : Tabled) (chart : Chart) (variables : ℕ) (old new : Ticks)
    → tabled ≡ tables_of (chart_of plant p) → chart ≡ chart_of plant p → variables ≡ variable_count plant
    → Within (scan_work tabled chart variables) old new → Within (program_work plant p) old new
same_work plant p tabled chart variables old new e f g h =
    subst (λ (n : ℕ). Within (scan_work (tables_of (chart_of plant p)) (chart_of plant p) n) old new) g
    (subst (λ (x : Chart). Within (scan_work (tables_of (chart_of plant p)) x variables) old new) f
    (subst (λ (x : Tabled). Within (scan_work x chart variables) old new) e h))
