use Rattle.std.proofs.Common.{sym, subst, ◌∷◌, Option, w64, SFits}
use Rattle.std.proofs.lemmas.Int.{to_z-of_z}
use Rattle.sfc_tasks.specs.declared.ranking.Waiting.{Waiting}
use Rattle.sfc_tasks.specs.Agreement.{TasksAgree}
use Rattle.sfc_tasks.specs.Calls.{Elapsed}
use Rattle.sfc_tasks.specs.Private.Keeping.{BestOf, slots_of}
use Rattle.sfc_tasks.proofs.Picking.{is_picked, none_picked, best_is_picked, none_best}
use Rattle.sfc_tasks.proofs.table.TaskTable.pick.Goals as goal

pub returns-in-Some-clause-value : goal.returns-in-Some-clause-value
unfolding TasksAgree
returns-in-Some-clause-value c tasks calls agrees =
    let fits : SFits w64 c.args.t = c.ranges.t in
    let all = Elapsed c.args.t c.args.singles.now ∷ calls in
    let best = subst (λ (x : Option Waiting). BestOf (slots_of tasks all) c.args.self.now.count x) c.in-Some.is
    (simp to_z-of_z at (c.best.ensures.first tasks calls agrees)) in
    sym (is_picked tasks all _ (best_is_picked tasks all c.args.self.now.count c.in-Some.first agrees.size best))

pub returns-in-None-clause-value : goal.returns-in-None-clause-value
unfolding TasksAgree
returns-in-None-clause-value c tasks calls agrees =
    let fits : SFits w64 c.args.t = c.ranges.t in
    let all = Elapsed c.args.t c.args.singles.now ∷ calls in
    let best = subst (λ (x : Option Waiting). BestOf (slots_of tasks all) c.args.self.now.count x) c.in-None.is
    (simp to_z-of_z at (c.best.ensures.first tasks calls agrees)) in
    sym (none_picked tasks all (none_best tasks all c.args.self.now.count agrees.size best))
