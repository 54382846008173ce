-- The chart of each program instance is one that a program can have.
use Rattle.std.proofs.Common.{ℕ, ◌≡◌, ◌<◌, arith, inl, inr, length, get_or, slice_get, Some, sym, ◌∙◌, ap, subst}
use Rattle.std.proofs.lemmas.Option.{slice_get_cases, get_or_from_slice_get}
use Rattle.sfc_plant.specs.declared.chart.Chart.{Chart}
use Rattle.sfc_plant.specs.Chart.{Counts, IsChart}
use Rattle.sfc_plant.specs.declared.program_type.ProgramType.{ProgramType}
use Rattle.sfc_plant.specs.declared.instance.Instance.{Instance}
use Rattle.sfc_plant.specs.Plants.{PlantData}
use Rattle.sfc_plant.specs.Finding.{chart_in, chart_among, chart_of}
use Rattle.sfc_plant.specs.Sound.{IsPlant, IsProgram}

abbrev pub IsSomeChart : Chart → Type 0
IsSomeChart chart = (counts : Counts) × IsChart counts chart

module _ (plant : PlantData) (sound : IsPlant plant) (k : ℕ) where
  of_type : (i : Instance) (type : ProgramType) → slice_get plant.instances k ≡ Some i → slice_get plant.types i.program.0 ≡ Some type
      → i.program.0 < length plant.types → IsSomeChart (chart_of plant (record { 0 = k }))
  of_type i type is has within =
      let chart : type.chart ≡ chart_of plant (record { 0 = k }) = sym (ap (chart_among plant.types) is ∙ ap chart_in has) in
      let read : get_or plant.types i.program.0 type ≡ type = get_or_from_slice_get plant.types i.program.0 type type has in
      let one : IsProgram (length plant.globals) type =
      subst (IsProgram (length plant.globals)) read (sound.types i.program.0 type within) in
      let counts : Counts = record { globals = length plant.globals; locals = length type.locals } in
      let some : IsSomeChart type.chart = (counts, one) in
      subst IsSomeChart chart some

  of_instance : (i : Instance) → k < length plant.instances → slice_get plant.instances k ≡ Some i
      → IsSomeChart (chart_of plant (record { 0 = k }))
  of_instance i lt is =
      let read : get_or plant.instances k i ≡ i = get_or_from_slice_get plant.instances k i i is in
      let within : i.program.0 < length plant.types =
      subst (λ (x : Instance). x.program.0 < length plant.types) read (sound.instances k i lt).program in
      elim (slice_get_cases plant.types i.program.0).1 as (λ _. IsSomeChart (chart_of plant (record { 0 = k }))) [
        | inl w ↦ of_type i w.0 is w.2 within
        | inr w ↦ absurd (omega (arith, w.0, within))
      ]

  pub chart_sound : k < length plant.instances → IsSomeChart (chart_of plant (record { 0 = k }))
  chart_sound lt =
      elim (slice_get_cases plant.instances k).1 as (λ _. IsSomeChart (chart_of plant (record { 0 = k }))) [
        | inl w ↦ of_instance w.0 lt w.2
        | inr w ↦ absurd (omega (arith, w.0, lt))
      ]
