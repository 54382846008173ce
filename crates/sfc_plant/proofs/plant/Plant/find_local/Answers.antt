use Rattle.std.proofs.Common.{◌≡◌, ◌<◌, length, get_or, slice_get, Some, refl, sym, ap, subst, ◌∙◌, arith}
use Rattle.std.proofs.lemmas.Option.{slice_get_read}
use Rattle.sfc_plant.specs.VariableNames.{variable_place}
use Rattle.sfc_plant.specs.declared.program_type.ProgramType.{ProgramType}
use Rattle.sfc_plant.specs.declared.instance.Instance.{Instance}
use Rattle.sfc_plant.specs.Plants.{PlantData}
use Rattle.sfc_plant.specs.Image.{starts_from}
use Rattle.sfc_plant.specs.Finding.{local_named}
use Rattle.sfc_plant.specs.Private.PlantView.{plant_data}
use Rattle.sfc_plant.proofs.Images.{starts_long, found_local}
use Rattle.sfc_plant.proofs.plant.Plant.find_local.Goals as goal

pub bounds-as_slice-index-3 : goal.bounds-as_slice-index-3
bounds-as_slice-index-3 c =
    let inside = c.self.inside in
    let p : PlantData = plant_data inside in
    let i = c.args.instance in
    let instance = c.index-as_slice-index.result in
    let program = c.index-as_slice-program.result in
    let bound : i.0 < length inside.parts.instances = subst (λ (q : PlantData). i.0 < length q.instances) (sym c.self.view_is) c.requires in
    omega (
      arith,
      ap length c.as_slice-3.ensures,
      ap length c.self.invariant.named.starts,
      starts_long (length inside.parts.declared.globals) inside.parts.declared.types inside.parts.instances,
      bound,
    )

pub overflow_add-result : goal.overflow_add-result
overflow_add-result c =
    let inside = c.self.inside in
    let p : PlantData = plant_data inside in
    let i = c.args.instance in
    let instance = c.index-as_slice-index.result in
    let program = c.index-as_slice-program.result in
    let bound : i.0 < length inside.parts.instances = subst (λ (q : PlantData). i.0 < length q.instances) (sym c.self.view_is) c.requires in
    let is : instance ≡ get_or inside.parts.instances i.0 instance =
    c.index-as_slice-index.is ∙ ap (λ xs. get_or xs i.0 instance) c.as_slice.ensures in
    let at_instance : slice_get inside.parts.instances i.0 ≡ Some instance = slice_get_read inside.parts.instances (length inside.parts.instances) i.0 instance refl bound is in
    let known : instance.program.0 < length inside.parts.declared.types =
    subst (λ (x : Instance). x.program.0 < length inside.parts.declared.types) (sym is) (c.self.invariant.sound.instances i.0 instance bound).program in
    let at_program : slice_get inside.parts.declared.types instance.program.0 ≡ Some program =
    slice_get_read inside.parts.declared.types (length inside.parts.declared.types) instance.program.0 program refl known
    (c.index-as_slice-program.is ∙ (λ j. get_or (c.as_slice-2.ensures j) (sym c.index-as_slice-index.is j).program.0 program)) in
    let starts : c.as_slice-3.result.now ≡ starts_from (length inside.parts.declared.globals) inside.parts.declared.types inside.parts.instances = c.as_slice-3.ensures ∙ c.self.invariant.named.starts in
    let found = found_local p c.as_slice-3.result.now i instance program c.args.name.now c.in_ok-place.place starts at_instance at_program
    (ap (λ (x : ProgramType). variable_place x.locals c.args.name.now) c.index-as_slice-program.is ∙ sym c.in_ok-place.ensures)
    c.self.invariant.sound.variable_limit in
    omega (arith, found.0)

pub overflow_cast-result : goal.overflow_cast-result
overflow_cast-result c =
    let inside = c.self.inside in
    let p : PlantData = plant_data inside in
    let i = c.args.instance in
    let instance = c.index-as_slice-index.result in
    let program = c.index-as_slice-program.result in
    let bound : i.0 < length inside.parts.instances = subst (λ (q : PlantData). i.0 < length q.instances) (sym c.self.view_is) c.requires in
    let is : instance ≡ get_or inside.parts.instances i.0 instance =
    c.index-as_slice-index.is ∙ ap (λ xs. get_or xs i.0 instance) c.as_slice.ensures in
    let at_instance : slice_get inside.parts.instances i.0 ≡ Some instance = slice_get_read inside.parts.instances (length inside.parts.instances) i.0 instance refl bound is in
    let known : instance.program.0 < length inside.parts.declared.types =
    subst (λ (x : Instance). x.program.0 < length inside.parts.declared.types) (sym is) (c.self.invariant.sound.instances i.0 instance bound).program in
    let at_program : slice_get inside.parts.declared.types instance.program.0 ≡ Some program =
    slice_get_read inside.parts.declared.types (length inside.parts.declared.types) instance.program.0 program refl known
    (c.index-as_slice-program.is ∙ (λ j. get_or (c.as_slice-2.ensures j) (sym c.index-as_slice-index.is j).program.0 program)) in
    let starts : c.as_slice-3.result.now ≡ starts_from (length inside.parts.declared.globals) inside.parts.declared.types inside.parts.instances = c.as_slice-3.ensures ∙ c.self.invariant.named.starts in
    let found = found_local p c.as_slice-3.result.now i instance program c.args.name.now c.in_ok-place.place starts at_instance at_program
    (ap (λ (x : ProgramType). variable_place x.locals c.args.name.now) c.index-as_slice-program.is ∙ sym c.in_ok-place.ensures)
    c.self.invariant.sound.variable_limit in
    omega (arith, found.0)

pub returns : goal.returns
returns c =
    let inside = c.self.inside in
    let p : PlantData = plant_data inside in
    let i = c.args.instance in
    let instance = c.index-as_slice-index.result in
    let program = c.index-as_slice-program.result in
    let bound : i.0 < length inside.parts.instances = subst (λ (q : PlantData). i.0 < length q.instances) (sym c.self.view_is) c.requires in
    let is : instance ≡ get_or inside.parts.instances i.0 instance =
    c.index-as_slice-index.is ∙ ap (λ xs. get_or xs i.0 instance) c.as_slice.ensures in
    let at_instance : slice_get inside.parts.instances i.0 ≡ Some instance = slice_get_read inside.parts.instances (length inside.parts.instances) i.0 instance refl bound is in
    let known : instance.program.0 < length inside.parts.declared.types =
    subst (λ (x : Instance). x.program.0 < length inside.parts.declared.types) (sym is) (c.self.invariant.sound.instances i.0 instance bound).program in
    let at_program : slice_get inside.parts.declared.types instance.program.0 ≡ Some program =
    slice_get_read inside.parts.declared.types (length inside.parts.declared.types) instance.program.0 program refl known
    (c.index-as_slice-program.is ∙ (λ j. get_or (c.as_slice-2.ensures j) (sym c.index-as_slice-index.is j).program.0 program)) in
    let starts : c.as_slice-3.result.now ≡ starts_from (length inside.parts.declared.globals) inside.parts.declared.types inside.parts.instances = c.as_slice-3.ensures ∙ c.self.invariant.named.starts in
    let found = found_local p c.as_slice-3.result.now i instance program c.args.name.now c.in_ok-place.place starts at_instance at_program
    (ap (λ (x : ProgramType). variable_place x.locals c.args.name.now) c.index-as_slice-program.is ∙ sym c.in_ok-place.ensures)
    c.self.invariant.sound.variable_limit in
    found.1 ∙ ap (λ (q : PlantData). local_named q i c.args.name.now) c.self.view_is
