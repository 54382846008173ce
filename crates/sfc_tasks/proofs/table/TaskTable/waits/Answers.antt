use Rattle.std.proofs.Common.{rules, ◌∙◌, ◌<◌, ap, length, arith, ℤ, Option, w64, SFits}
use Rattle.std.proofs.lemmas.Int.{to_z-of_z}
use Rattle.std.specs.Prelude.{is_some}
use Rattle.sfc_tasks.specs.Agreement.{TasksAgree}
use Rattle.sfc_tasks.proofs.Tables.{elapsed_since}
use Rattle.sfc_tasks.proofs.table.TaskTable.waits.Goals as goal

pub returns-clause-value : goal.returns-clause-value
unfolding TasksAgree
returns-clause-value c tasks calls agrees =
    let t : SFits w64 c.args.t = c.ranges.t in
    let last : SFits w64 c.args.self.now.last = search rules in
    let table = c.args.self.now in
    let k = c.args.task.0 in
    let lt : k < length tasks = omega (arith, agrees.size, c.requires.task) in
    let since = simp to_z-of_z at (c.since_at.ensures table.last _ (table.ahead k c.requires.task) (agrees.each k lt).releases) in
    c.is_some.ensures ∙ ap (λ (x : Option ℤ). is_some x) (since ∙ elapsed_since tasks table c.args.t c.args.singles.now calls k lt agrees)
