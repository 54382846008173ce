use Rattle.std.proofs.Common.{◌≡◌, ◌≤◌, arith, unsigned_abs, w64, SFits}
use Rattle.std.proofs.lemmas.Int.{to_z-of_z}
use Rattle.sfc_tasks.proofs.Ahead.{since_next}
use Rattle.sfc_tasks.proofs.task_slot.since_at.Goals as goal

pub returns : goal.returns
returns c last waited ahead h =
    let t : SFits w64 c.args.t = c.ranges.t in
    let abs : c.unsigned_abs.result ≡ unsigned_abs c.args.t = simp to_z-of_z at c.unsigned_abs.ensures.value in
    let le : c.args.slot.now.next ≤ unsigned_abs c.args.t = omega (arith, abs, c.if-unsigned_abs-slot.false) in
    since_next c.args.slot.now waited last c.args.t c.args.single c.in_default.is c.if-single.false c.requires.low c.requires.high le ahead h
