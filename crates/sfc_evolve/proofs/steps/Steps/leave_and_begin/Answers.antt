use Rattle.std.proofs.Common.{◌≡◌, arith, ◌∙◌, SFits, w64}
use Rattle.std.proofs.lemmas.Int.{to_z-of_z}
use Rattle.std.proofs.lemmas.List.{with_items_is}
use Rattle.sfc_evolve.specs.Private.Keeping.{left_at}
use Rattle.sfc_evolve.proofs.steps.Steps.leave_and_begin.Goals as goal

pub returns-clause-held_times : goal.returns-clause-held_times
returns-clause-held_times c =
    let ft : SFits w64 c.args.t = c.ranges.t in
    let left : c.leave.new.held_times ≡ left_at c.args.t c.deref.result.now c.args.preceding.now c.deref_mut.result.now =
    simp to_z-of_z at c.leave.ensures.held_times in
    with_items_is c.args.self.now.held_times c.leave.new.held_times (omega arith) ∙ left
    ∙ (λ i. left_at c.args.t (c.deref.ensures.value i) c.args.preceding.now (c.deref_mut.ensures.value i))
