use Rattle.std.proofs.Common.{◌≤◌, arith}
use Rattle.sfc_events.proofs.Bits.{none_above}
use Rattle.sfc_events.proofs.instance_set.InstanceSet.contains.Goals as goal

pub returns-else-instance-lt64 : goal.returns-else-instance-lt64
returns-else-instance-lt64 c =
    let above : 64 ≤ c.args.instance.0 = omega (arith, c.if-instance-lt64.false) in
    let none = none_above c.args.self.bits c.args.instance.0 (omega arith) above in
    grind (arith, none)
