use Rattle.std.proofs.Common.{◌≡◌, ◌<◌, ap, arith, unsigned_abs, w64, SFits}
use Rattle.std.proofs.lemmas.Int.{to_z-of_z}
use Rattle.sfc_tasks.specs.declared.task_slot.TaskSlot.{TaskSlot}
use Rattle.sfc_tasks.proofs.Ahead.{is_before, none_elapsed}
use Rattle.sfc_tasks.proofs.Gained.{gains_none}
use Rattle.sfc_tasks.proofs.task_slot.pass_time.Goals as goal

pub returns-then-unsigned_abs-slot-clause-gains : goal.returns-then-unsigned_abs-slot-clause-gains
returns-then-unsigned_abs-slot-clause-gains c =
    let t : SFits w64 c.args.t = c.ranges.t in
    let last : SFits w64 c.args.last = c.ranges.last in
    let slot = c.args.slot.now in
    let abs : c.unsigned_abs.result ≡ unsigned_abs c.args.t = simp to_z-of_z at c.unsigned_abs.ensures.value in
    let lt : unsigned_abs c.args.t < slot.next = omega (arith, abs, c.if-unsigned_abs-slot.true) in
    let before = is_before c.args.t slot.next c.requires.low lt in
    let none = none_elapsed slot.interval c.args.last c.args.t c.args.single slot.next c.requires.ahead before in
    let is = simp to_z-of_z at c.pass_none.ensures in
    gains_none _ slot _ none
    (record { interval = ap (λ (s : TaskSlot). s.interval) is; priority = ap (λ (s : TaskSlot). s.priority) is; overruns = ap (λ (s : TaskSlot). s.overruns) is })
    (ap (λ (s : TaskSlot). s.since) is) (ap (λ (s : TaskSlot). s.more) is)

pub returns-else-unsigned_abs-slot-clause-gains : goal.returns-else-unsigned_abs-slot-clause-gains
returns-else-unsigned_abs-slot-clause-gains c =
    let t : SFits w64 c.args.t = c.ranges.t in
    simp to_z-of_z at (c.pass_multiples.ensures.gains c.args.last c.requires.ahead)
