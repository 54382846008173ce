use Rattle.std.proofs.Common.{length, subst, to_z-of_z}
use Rattle.sfc_instance.specs.declared.holding.Holding.{Holding}
use Rattle.sfc_instance.specs.declared.holding.Holding.TheVariants.{One}
use Rattle.sfc_instance.specs.Private.Holding.{AreHeld}
use Rattle.sfc_instance.proofs.Held.{alone}
use Rattle.sfc_instance.proofs.state.clear.Goals as goal

pub returns-in-One-clause-agrees : goal.returns-in-One-clause-agrees
returns-in-One-clause-agrees c done scans agrees =
    let conditions = c.args.buffers.now.conditions.items in
    let held : AreHeld (length c.args.tables.now.sides) (One c.in-One.transition) conditions =
    subst (λ (x : Holding). AreHeld (length c.args.tables.now.sides) x conditions) c.in-One.is c.requires.buffers.held in
    simp (to_z-of_z, c.ranges.t) at
    (c.clear.ensures.agrees done conditions scans (alone (length c.args.tables.now.sides) c.in-One.transition conditions held.0 held.1) agrees)
