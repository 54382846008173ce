use Rattle.std.proofs.Common.{rules, ◌+◌, ◌∙◌, ◌∷◌, ◌<◌, List, sym, length, arith, w64, SFits}
use Rattle.std.proofs.lemmas.Int.{to_z-of_z}
use Rattle.sfc_plant.specs.declared.task.Task.{Task}
use Rattle.sfc_tasks.specs.Agreement.{TasksAgree}
use Rattle.sfc_tasks.specs.Calls.{Call, Elapsed}
use Rattle.sfc_tasks.specs.Private.Keeping.{slots_of, BestOf}
use Rattle.sfc_tasks.proofs.Picking.{made_since, made_priority}
use Rattle.sfc_tasks.proofs.Tables.{elapsed_since}
use Rattle.sfc_tasks.proofs.table.TaskTable.best.Goals as goal

pub loop-i-preserved : goal.loop-i-preserved
unfolding TasksAgree
loop-i-preserved c = record {
  first = simp (to_z-of_z, c.ranges.t) more;
  number = c.first_with-best.ensures.number c.loop-i.invariant.number;
  ticks = search rules;
} where
  more : (tasks : List Task) (calls : List Call) → TasksAgree tasks c.args.self.now calls
      → BestOf (slots_of tasks (Elapsed c.args.t c.args.singles.now ∷ calls)) (c.loop-i.i + 1) c.first_with-best.result
  more tasks calls agrees =
      let t : SFits w64 c.args.t = c.ranges.t in
      let last : SFits w64 c.args.self.now.last = search rules in
      let i = c.loop-i.i in
      let all = Elapsed c.args.t c.args.singles.now ∷ calls in
      let lt : i < length tasks = omega (arith, agrees.size, c.loop-i-test.true) in
      let table = c.args.self.now in
      let here : i < table.count = c.loop-i-test.true in
      let kept = agrees.each i lt in
      let since = simp to_z-of_z at (c.since_at-since.ensures table.last _ (table.ahead i here) kept.releases) in
      c.first_with-best.ensures.first (slots_of tasks all)
      (made_since tasks all i lt ∙ sym (since ∙ elapsed_since tasks table c.args.t c.args.singles.now calls i lt agrees))
      (made_priority tasks all i lt ∙ sym kept.priority) (simp to_z-of_z at (c.loop-i.invariant.first tasks calls agrees))
