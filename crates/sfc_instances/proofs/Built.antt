-- What the instances of a plant are built of.
use Rattle.std.proofs.Common.{◌≡◌, inl, inr, ℕ, ◌+◌, ◌<◌, arith, List, [], ◌∷◌, ◌++◌, length, map, get_or, slice_get, Some, sym, ◌∙◌, ap, subst}
use Rattle.std.proofs.lemmas.Bool.Decides.{eqb_tells}
use Rattle.std.proofs.lemmas.List.{get_or_append_left}
use Rattle.std.proofs.lemmas.Option.{slice_get-get_or, slice_get-map, slice_get_cases, get_or_from_slice_get}
use Rattle.std.specs.Option.{option_map}
use Rattle.std.proofs.Math.Seq.{get_or-append_seam}
use Rattle.sfc_plant.specs.declared.chart.Chart.{Chart}
use Rattle.sfc_instance.specs.sfc_tables.Tables.{Tabled, tables_of}
use Rattle.sfc_plant.specs.declared.program_type.ProgramType.{ProgramType}
use Rattle.sfc_plant.specs.declared.instance.Instance.{Instance}
use Rattle.sfc_plant.specs.Plants.{PlantData}
use Rattle.sfc_plant.specs.Sound.{IsPlant}
use Rattle.sfc_instance.specs.declared.program.Program.{Program}
use Rattle.sfc_plant.specs.Finding.{chart_in, chart_among, chart_of}
use Rattle.sfc_instances.specs.Private.Building.{IsOpened, AreOpened}

-- the first k of these programs are opened
abbrev pub OpenedTo : List Tabled → List Instance → List Program → ℕ → Type 0
OpenedTo tables instances programs k =
    (j : ℕ) (instance : Instance) (tabled : Tabled) (d : Program) → j < k → slice_get instances j ≡ Some instance →
    slice_get tables instance.program.0 ≡ Some tabled → IsOpened tabled (get_or programs j d)

-- one program more
pub opened_more : (tables : List Tabled) (instances : List Instance) (programs : List Program) (k : ℕ) (i : Instance) (tabled : Tabled)
    (program : Program) → length programs ≡ k → k < length instances → (get_or instances k i).program.0 < length tables
    → tabled ≡ get_or tables (get_or instances k i).program.0 tabled → IsOpened tabled program → OpenedTo tables instances programs k
    → OpenedTo tables instances (programs ++ program ∷ []) (k + 1)
opened_more tables instances programs k i tabled program long lt within is new old j instance x d jlt e f =
    elim (eqb_tells j k) as (λ _. IsOpened x (get_or (programs ++ program ∷ []) j d)) [
      | inl w ↦
          let same : Some instance ≡ Some (get_or instances k i) =
          sym e ∙ ap (slice_get instances) w.1 ∙ slice_get-get_or instances k i lt in
          let one : instance ≡ get_or instances k i = cc in
          let read : Some x ≡ Some (get_or tables (get_or instances k i).program.0 tabled) =
          sym f ∙ ap (λ (y : Instance). slice_get tables y.program.0) one
          ∙ slice_get-get_or tables (get_or instances k i).program.0 tabled within in
          let tables_are : x ≡ tabled = cc in
          let here : get_or (programs ++ program ∷ []) j d ≡ program =
          ap (λ (n : ℕ). get_or (programs ++ program ∷ []) n d) (w.1 ∙ sym long) ∙ get_or-append_seam programs program [] d in
          subst (λ (y : Program). IsOpened x y) (sym here) (subst (λ (y : Tabled). IsOpened y program) (sym tables_are) new)
      | inr w ↦
          let less : j < k = omega (arith, w.1) in
          let there : get_or (programs ++ program ∷ []) j d ≡ get_or programs j d =
          get_or_append_left programs (program ∷ []) d j (omega (arith, long)) in
          subst (λ (y : Program). IsOpened x y) (sym there) (old j instance x d less e f)
    ]

module _ (plant : PlantData) (sound : IsPlant plant) (tables : List Tabled) (instances : List Instance) (programs : List Program)
    (e : tables ≡ map (λ (x : ProgramType). tables_of x.chart) plant.types) (f : instances ≡ plant.instances)
    (opened : AreOpened tables instances programs) (k : ℕ) (d : Program) where
  of_type : (i : Instance) (type : ProgramType) → slice_get plant.instances k ≡ Some i → slice_get plant.types i.program.0 ≡ Some type
      → IsOpened (tables_of (chart_of plant (record { 0 = k }))) (get_or programs k d)
  of_type i type is has =
      let chart : type.chart ≡ chart_of plant (record { 0 = k }) =
      sym (ap (chart_among plant.types) is ∙ ap chart_in has) in
      let there : slice_get tables i.program.0 ≡ Some (tables_of type.chart) =
      ap (λ (xs : List Tabled). slice_get xs i.program.0) e
      ∙ slice_get-map (λ (x : ProgramType). tables_of x.chart) plant.types i.program.0
      ∙ ap (option_map (λ (x : ProgramType). tables_of x.chart)) has in
      subst (λ (chart : Chart). IsOpened (tables_of chart) (get_or programs k d)) chart
      (opened k i (tables_of type.chart) d (ap (λ (xs : List Instance). slice_get xs k) f ∙ is) there)

  of_instance : (i : Instance) → k < length plant.instances → slice_get plant.instances k ≡ Some i
      → IsOpened (tables_of (chart_of plant (record { 0 = k }))) (get_or programs k d)
  of_instance i lt is =
      let read : get_or plant.instances k i ≡ i = get_or_from_slice_get plant.instances k i i is in
      let within : i.program.0 < length plant.types =
      subst (λ (x : Instance). x.program.0 < length plant.types) read (sound.instances k i lt).program in
      elim (slice_get_cases plant.types i.program.0).1 as (λ _. IsOpened (tables_of (chart_of plant (record { 0 = k }))) (get_or programs k d)) [
        | inl w ↦ of_type i w.0 is w.2
        | inr w ↦ absurd (omega (arith, w.0, within))
      ]

  -- each program is opened for its instance
  pub opened_for : k < length plant.instances → IsOpened (tables_of (chart_of plant (record { 0 = k }))) (get_or programs k d)
  opened_for lt =
      elim (slice_get_cases plant.instances k).1 as (λ _. IsOpened (tables_of (chart_of plant (record { 0 = k }))) (get_or programs k d)) [
        | inl w ↦ of_instance w.0 lt w.2
        | inr w ↦ absurd (omega (arith, w.0, lt))
      ]
