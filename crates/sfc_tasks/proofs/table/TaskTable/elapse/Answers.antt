use Rattle.std.proofs.Common.{rules, refl, w64, SFits}
use Rattle.std.proofs.lemmas.Int.{to_z-of_z}
use Rattle.sfc_tasks.specs.Agreement.{TasksAgree}
use Rattle.sfc_tasks.proofs.Tables.{elapse_agrees}
use Rattle.sfc_tasks.proofs.table.TaskTable.elapse.Goals as goal

pub returns-then-self-eq1-clause-agrees : goal.returns-then-self-eq1-clause-agrees
unfolding TasksAgree
returns-then-self-eq1-clause-agrees c tasks calls agrees =
    let t : SFits w64 c.args.t = c.ranges.t in
    let last : SFits w64 c.args.self.now.last = search rules in
    elapse_agrees tasks c.args.self.now _ c.args.t c.args.singles.now calls refl (to_z-of_z w64 c.args.t t) c.requires.singles
    (simp to_z-of_z at c.elapse_alone.ensures.each) agrees

pub returns-else-self-eq1-clause-agrees : goal.returns-else-self-eq1-clause-agrees
unfolding TasksAgree
returns-else-self-eq1-clause-agrees c tasks calls agrees =
    let t : SFits w64 c.args.t = c.ranges.t in
    let last : SFits w64 c.args.self.now.last = search rules in
    elapse_agrees tasks c.args.self.now _ c.args.t c.args.singles.now calls refl (to_z-of_z w64 c.args.t t) c.requires.singles
    (simp to_z-of_z at c.elapse_all.ensures.each) agrees
