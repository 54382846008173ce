use Rattle.std.proofs.Common.{◌≡◌, ◌∙◌, ◌∷◌, ◌<◌, arith, length, sym, w64, SFits, to_z-of_z}
use Rattle.std.proofs.lemmas.Bool.{OnTrue_at}
use Rattle.sfc_tasks.specs.Agreement.{TasksAgree}
use Rattle.sfc_tasks.specs.Calls.{Elapsed}
use Rattle.sfc_core.specs.Verdict.{turn_refusal}
use Rattle.sfc_core.proofs.Turns.{alone_turn}
use Rattle.sfc_core.proofs.due.refuse_scan.Goals as goal

pub returns-then-is_alone-clause-value : goal.returns-then-is_alone-clause-value
unfolding turn_refusal TasksAgree
returns-then-is_alone-clause-value c all calls agrees =
    let fits : SFits w64 c.args.t = c.ranges.t in
    let one = OnTrue_at c.if-is_alone.true c.is_alone.ensures.yes in
    let alone : length all ≡ 1 = sym agrees.size ∙ one in
    let task : c.args.task.0 < 1 = omega (arith, c.requires.task, one) in
    simp to_z-of_z at (c.refuse_undue.ensures.value all calls agrees)
    ∙ alone_turn all c.args.singles.now (Elapsed c.args.t c.args.singles.now ∷ calls) c.args.task c.args.t alone task
