use Rattle.std.proofs.Common.{Bool, List, false, length, slice_set, subst, ap, ◌∙◌}
use Rattle.sfc_instance.specs.declared.holding.Holding.{Holding}
use Rattle.sfc_instance.specs.declared.holding.Holding.TheVariants.{One}
use Rattle.sfc_instance.specs.Private.Holding.{AreHeld}
use Rattle.sfc_instance.proofs.Held.{cleared_again}
use Rattle.sfc_instance.proofs.conditions.blank.Goals as goal

pub returns-in-One : goal.returns-in-One
returns-in-One c =
    let n = length c.args.conditions.now in
    let held : AreHeld n (One c.in-One.transition) c.args.conditions.now =
    subst (λ (x : Holding). AreHeld n x c.args.conditions.now) c.in-One.is c.requires in
    ap (λ (l : List Bool). slice_set l c.in-One.transition.0 false) held.1 ∙ cleared_again n c.in-One.transition.0
