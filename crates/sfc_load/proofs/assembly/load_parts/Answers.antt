use Rattle.std.proofs.Common.{◌≡◌, List, length, map, sym, ap, subst, ◌∙◌}
use Rattle.std.proofs.lemmas.Result.{err_from_is_err_and}
use Rattle.sfc_text.specs.Trees.{source_of}
use Rattle.sfc_program.specs.sfc_variables.Checks.{Fails}
use Rattle.sfc_plant.specs.declared.declarations.Declarations.{Declarations}
use Rattle.sfc_plant.specs.declared.instance.Instance.{Instance}
use Rattle.sfc_plant.specs.Image.{image_of, starts_from}
use Rattle.sfc_load.specs.Loading.{image_check}
use Rattle.sfc_load.proofs.Named.{tasks_named, types_named, instances_named}
use Rattle.sfc_load.proofs.Walk.{Walked, the_plant, plant_built, walk_passes, walk_fails, walked_on}
use Rattle.sfc_load.proofs.assembly.load_parts.Goals as goal

pub load_instances-requires : goal.load_instances-requires
load_instances-requires c = c.in_ok-declared.ensures.loads.few

pub returns-in_err-starts-clause-loads : goal.returns-in_err-starts-clause-loads
returns-in_err-starts-clause-loads c =
    let d : Declarations = c.in_ok-declared.declared in
    let instances : List Instance = c.in_ok-instances.instances.items in
    let w : Walked (source_of c.args.source.now) d.globals d.tasks d.types instances =
    walked_on _ d _ _ c.in_ok-declared.ensures.loads c.as_slice.ensures c.in_ok-instances.ensures.loads.0 c.in_ok-instances.ensures.loads.1 in
    let image : image_of c.as_slice-2.result.now c.as_slice-3.result.now c.deref.result.now ≡ image_of d.globals d.types instances =
    λ i. image_of (c.as_slice-2.ensures i) (c.as_slice-3.ensures i) (c.deref.ensures.value i) in
    let h : Fails c.in_err-starts.field-0.0 (image_check (image_of d.globals d.types instances)) =
    subst (λ i. Fails c.in_err-starts.field-0.0 (image_check i)) image c.in_err-starts.ensures in
    let p = err_from_is_err_and c.from_residual-in_err-starts.result c.from_residual-in_err-starts.ensures.1 in
    rw (p.1, p.2) (walk_fails _ _ _ _ _ w c.in_err-starts.field-0.0 h)

pub returns-clause-loads : goal.returns-clause-loads
returns-clause-loads c =
    let d : Declarations = c.in_ok-declared.declared in
    let instances : List Instance = c.in_ok-instances.instances.items in
    let w : Walked (source_of c.args.source.now) d.globals d.tasks d.types instances =
    walked_on _ d _ _ c.in_ok-declared.ensures.loads c.as_slice.ensures c.in_ok-instances.ensures.loads.0 c.in_ok-instances.ensures.loads.1 in
    let image : image_of c.as_slice-2.result.now c.as_slice-3.result.now c.deref.result.now ≡ image_of d.globals d.types instances =
    λ i. image_of (c.as_slice-2.ensures i) (c.as_slice-3.ensures i) (c.deref.ensures.value i) in (
      walk_passes _ _ _ _ _ w (ap image_check (sym image) ∙ c.in_ok-starts.ensures.0),
      ap (the_plant (source_of c.args.source.now) d.globals d.tasks d.types) c.from_vec.ensures ∙ plant_built _ _ _ _ _ w,
    )

pub returns-clause-named : goal.returns-clause-named
returns-clause-named c =
    let d : Declarations = c.in_ok-declared.declared in
    record {
      tasks = tasks_named _ _ _ _ c.in_ok-declared.ensures.loads.task_table c.in_ok-declared.ensures.loads.tasks_are;
      types = types_named _ _ _ _ c.in_ok-declared.ensures.loads.type_table c.in_ok-declared.ensures.loads.types_are;
      instances =
          instances_named _ _ _ _ _ c.in_ok-instances.ensures.named c.in_ok-instances.ensures.loads.1 ∙ sym (ap (map (λ i. i.name)) c.from_vec.ensures);
      starts =
          c.from_vec-2.ensures
          ∙ c.in_ok-starts.ensures.1
          ∙ (λ i. starts_from (length (c.as_slice-2.ensures i)) (c.as_slice-3.ensures i) ((c.deref.ensures.value ∙ sym c.from_vec.ensures) i));
    }
