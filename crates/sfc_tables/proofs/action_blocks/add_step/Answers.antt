use Rattle.std.proofs.Common.{◌<◌, length, subst, sym, arith}
use Rattle.sfc_plant.specs.declared.association.Association.{Association}
use Rattle.sfc_tables.specs.Actions.{number_of}
use Rattle.sfc_tables.proofs.action_blocks.add_step.Goals as goal

pub number-requires : goal.number-requires
number-requires c =
    subst (λ (a : Association). (number_of c.args.actions.now a.target).0 < length c.args.actions.now) (sym c.association-item.is)
    (c.requires.targets c.loop-association.association-index c.association-item.result (omega arith))
