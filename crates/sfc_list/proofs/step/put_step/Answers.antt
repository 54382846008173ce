use Rattle.std.proofs.Common.{List, flat_map, subst}
use Rattle.sfc_plant.specs.declared.association.Association.{Association}
use Rattle.sfc_list.specs.Private.Parts.{association_line}
use Rattle.sfc_list.specs.Private.Sinking.{Puts}
use Rattle.sfc_list.proofs.Sunk.{puts_then}
use Rattle.sfc_list.proofs.step.put_step.Goals as goal

pub returns : goal.returns
returns g c =
    let n : _ = g.W.Write.contents in
    let lines : Puts n c.put_step_line.new.out c.put_associations.new.out
    (flat_map (association_line c.args.names.now) c.args.step.now.associations) =
    subst (λ (xs : List Association). Puts n c.put_step_line.new.out c.put_associations.new.out (flat_map (association_line c.args.names.now) xs))
    c.as_slice.ensures c.put_associations.ensures in
    (puts_then n _ _ _ _ _ (puts_then n _ _ _ _ _ c.put_step_line.ensures lines) c.put.ensures)
