use Rattle.std.proofs.Common.{List, flat_map, subst}
use Rattle.sfc_plant.specs.declared.variable.Variable.{Variable}
use Rattle.sfc_plant.specs.declared.program_type.ProgramType.{ProgramType}
use Rattle.sfc_list.specs.Listing.{program_text}
use Rattle.sfc_list.specs.Private.Sinking.{Puts}
use Rattle.sfc_list.proofs.Sunk.{puts_then}
use Rattle.sfc_list.proofs.list.put_plant.Goals as goal

pub returns : goal.returns
returns g c =
    let n : _ = g.W.Write.contents in
    let types : Puts n c.args.out.now c.put_programs.new.out (flat_map (program_text c.args.plant.now.globals) c.args.plant.now.types) =
    subst (λ (ps : List ProgramType). Puts n c.args.out.now c.put_programs.new.out (flat_map (program_text c.args.plant.now.globals) ps))
    c.types.ensures.value
    (subst (λ (vs : List Variable). Puts n c.args.out.now c.put_programs.new.out (flat_map (program_text vs) c.types.result.now))
    c.globals.ensures.value c.put_programs.ensures) in
    (puts_then n _ _ _ _ _ types c.put_configuration.ensures)
