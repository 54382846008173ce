use Rattle.std.proofs.Common.{◌≡◌, arith, w64, SFits}
use Rattle.std.proofs.lemmas.Int.{to_z-of_z}
use Rattle.std.proofs.lemmas.List.{get_or-set_same}
use Rattle.sfc_tasks.specs.Private.Keeping.{blank_slot}
use Rattle.sfc_tasks.proofs.table.elapse_alone.Goals as goal

pub returns-clause-each : goal.returns-clause-each
returns-clause-each c k lt =
    let last : SFits w64 c.args.last = c.ranges.last in
    let t : SFits w64 c.args.t = c.ranges.t in
    let gains = simp to_z-of_z at c.pass_time.ensures.gains in
    let here : k ≡ 0 = omega (arith, lt, c.requires.alone) in
    let same = get_or-set_same c.args.slots.now 0 c.pass_time.new.slot blank_slot (omega (arith, c.requires.len, c.requires.alone)) in
    rw (here, same) gains
