use Rattle.std.proofs.Common.{◌≡◌, ◌∙◌, ◌<◌, List, ap, arith, get_or, length, map, subst, sym}
use Rattle.sfc_plant.specs.declared.program_type.ProgramType.{ProgramType}
use Rattle.sfc_instance.specs.sfc_tables.Tables.{tables_of}
use Rattle.sfc_plant.specs.Sound.{IsProgram}
use Rattle.sfc_instances.specs.Agreement.{InstancesAgree}
use Rattle.sfc_instances.proofs.Built.{opened_for}
use Rattle.sfc_instances.proofs.instances.Instances.new.Goals as goal

pub build_tables-requires : goal.build_tables-requires
build_tables-requires c =
    let plant = c.args.plant.now in (
      length plant.globals,
      λ k d lt.
          subst (λ (xs : List ProgramType). k < length xs → IsProgram (length plant.globals) (get_or xs k d)) (sym c.types.ensures.value)
          (c.types.ensures.sound.types k d) lt,
    )

pub returns-clause-sizes : goal.returns-clause-sizes
returns-clause-sizes c =
    let plant = c.args.plant.now in
    let tables : c.in_ok-tables.tables.items ≡ map (λ (p : ProgramType). tables_of p.chart) plant.types =
    c.in_ok-tables.ensures ∙ ap (map (λ (p : ProgramType). tables_of p.chart)) c.types.ensures.value in
    let len = c.in_ok-programs.ensures.len ∙ ap length c.instances.ensures.value in
    record {
      tables = tables;
      variables = c.in_ok-image.ensures.variables;
      locals = c.in_ok-image.ensures.instances;
      closed = c.in_ok-image.ensures.closed;
      instances = len;
      programs = λ k d lt.
          (opened_for plant c.types.ensures.sound c.deref.result.now c.instances.result.now c.in_ok-programs.programs.items
          (c.deref.ensures.value ∙ tables) c.instances.ensures.value c.in_ok-programs.ensures.each k d
          (omega (arith, lt, len))).sizes;
    }

pub returns-clause-agrees : goal.returns-clause-agrees
unfolding InstancesAgree
returns-clause-agrees c =
    let plant = c.args.plant.now in
    let tables : c.in_ok-tables.tables.items ≡ map (λ (p : ProgramType). tables_of p.chart) plant.types =
    c.in_ok-tables.ensures ∙ ap (map (λ (p : ProgramType). tables_of p.chart)) c.types.ensures.value in
    let len = c.in_ok-programs.ensures.len ∙ ap length c.instances.ensures.value in
    record {
      image = c.in_ok-image.ensures.agrees;
      programs = λ k d lt.
          (opened_for plant c.types.ensures.sound c.deref.result.now c.instances.result.now c.in_ok-programs.programs.items
          (c.deref.ensures.value ∙ tables) c.instances.ensures.value c.in_ok-programs.ensures.each k d
          (omega (arith, lt, len))).agrees;
    }
