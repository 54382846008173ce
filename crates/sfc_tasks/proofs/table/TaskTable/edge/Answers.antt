use Rattle.std.proofs.Common.{rules, ◌<◌, [], ◌∷◌, length, refl, sym, ap, Some, w64, SFits}
use Rattle.std.proofs.lemmas.Int.{to_z-of_z}
use Rattle.sfc_tasks.specs.Agreement.{TasksAgree}
use Rattle.sfc_tasks.proofs.Tables.{rise_agrees}
use Rattle.sfc_tasks.proofs.table.TaskTable.edge.Goals as goal

pub returns-clause-agrees : goal.returns-clause-agrees
unfolding TasksAgree
returns-clause-agrees c tasks calls agrees =
    let f : SFits w64 c.args.t = c.ranges.t in
    let gains = c.gain.ensures.gains (c.args.t ∷ []) (ap Some (sym (to_z-of_z w64 c.args.t f))) refl in
    let fits : c.args.task.0 < length c.args.self.now.slots = search rules in
    rise_agrees tasks c.args.self.now _ c.args.task c.args.t c.gain.new.slot calls refl refl refl fits gains agrees
