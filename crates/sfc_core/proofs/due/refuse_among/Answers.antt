use Rattle.std.proofs.Common.{◌∙◌, ◌∷◌, sym, w64, SFits, to_z-of_z}
use Rattle.std.proofs.lemmas.Bool.{OnTrue_at}
use Rattle.sfc_tasks.specs.Calls.{Elapsed}
use Rattle.sfc_core.specs.Verdict.{turn_refusal}
use Rattle.sfc_core.proofs.Turns.{first_turn}
use Rattle.sfc_core.proofs.due.refuse_among.Goals as goal

pub returns-then-is_first-clause-value : goal.returns-then-is_first-clause-value
unfolding turn_refusal
returns-then-is_first-clause-value c all calls agrees =
    let fits : SFits w64 c.args.t = c.ranges.t in
    let picks = simp to_z-of_z at (c.pick-first.ensures.value all calls agrees) in
    let is = OnTrue_at c.if-is_first.true c.is_first.ensures in
    first_turn all c.args.singles.now (Elapsed c.args.t c.args.singles.now ∷ calls) c.args.task c.args.t (sym picks ∙ is)
