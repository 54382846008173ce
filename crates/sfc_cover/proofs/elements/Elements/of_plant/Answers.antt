use Rattle.std.proofs.Common.{◌<◌, List, get_or, length, subst, sym}
use Rattle.sfc_plant.specs.declared.program_type.ProgramType.{ProgramType}
use Rattle.sfc_plant.specs.Sound.{IsProgram}
use Rattle.sfc_cover.proofs.elements.Elements.of_plant.Goals as goal

pub tables_of-requires : goal.tables_of-requires
tables_of-requires c =
    let plant = c.args.plant.now in (
      length plant.globals,
      λ k d lt.
          subst (λ (xs : List ProgramType). k < length xs → IsProgram (length plant.globals) (get_or xs k d)) (sym c.types.ensures.value)
          (c.types.ensures.sound.types k d) lt,
    )
