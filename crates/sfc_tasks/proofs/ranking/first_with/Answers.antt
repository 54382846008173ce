use Rattle.std.proofs.Common.{rules, arith, refl, ◌∙◌, w64, SFits}
use Rattle.std.proofs.lemmas.Bool.{OnTrue_at}
use Rattle.std.proofs.lemmas.Int.{ints, to_z-of_z}
use Rattle.sfc_tasks.proofs.Firsts.{best_overtakes}
use Rattle.sfc_tasks.proofs.ranking.first_with.Goals as goal

pub returns-then-goes_before-clause-first : goal.returns-then-goes_before-clause-first
returns-then-goes_before-clause-first c slots e f h =
    let since : SFits w64 c.in-Some.since = search rules in
    let first : SFits w64 c.in-Some-best.first.since = search rules in
    let before = OnTrue_at c.if-goes_before.true c.goes_before.ensures.yes in
    simp to_z-of_z (best_overtakes slots c.args.i c.args.best _ c.in-Some-best.first c.in-Some-best.is refl (e ∙ c.in-Some.is) f h
    (before.0, λ same. omega (arith, ints, before.1 same)))
