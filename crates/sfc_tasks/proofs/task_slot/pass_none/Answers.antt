use Rattle.std.proofs.Common.{◌≤ℤ◌, ap, arith, ℕ, w64, SFits}
use Rattle.std.proofs.lemmas.Int.{to_z-of_z, ints}
use Rattle.sfc_tasks.proofs.Ahead.{still_ahead}
use Rattle.sfc_tasks.proofs.task_slot.pass_none.Goals as goal

pub returns-else-t-last : goal.returns-else-t-last
returns-else-t-last c =
    let t : SFits w64 c.args.t = c.ranges.t in
    let last : SFits w64 c.args.last = c.ranges.last in
    let slot = c.args.slot.now in
    let off = simp to_z-of_z at c.if-t-last.false in
    let on : c.args.last ≤ℤ c.args.t = omega (arith, ints, off) in
    ap (λ (n : ℕ). record slot { next = n }) (still_ahead slot.interval c.args.last c.args.t slot.next c.requires.ahead on c.requires.later)
