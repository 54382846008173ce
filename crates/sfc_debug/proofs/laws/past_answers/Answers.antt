use Rattle.std.proofs.Common.{ap}
use Rattle.sfc_debug.proofs.Pasts.{verdict_by_past, hits_by_past, instant_by_past}
use Rattle.sfc_debug.proofs.laws.past_answers.Goals as goal

pub returns-clause-verdict : goal.returns-clause-verdict
returns-clause-verdict c plant table h other command raw sound same =
    let shown = c.past_answers.ensures in
    verdict_by_past
    (record { activated = shown.activated; cleared = shown.cleared; executed = shown.executed; elapsed = shown.elapsed })
    plant sound table h other same command raw

pub returns-clause-hits : goal.returns-clause-hits
returns-clause-hits c plant table h other command raw sound same =
    let shown = c.past_answers.ensures in
    hits_by_past
    (record { activated = shown.activated; cleared = shown.cleared; executed = shown.executed; elapsed = shown.elapsed })
    plant sound table h other same command raw

pub returns-clause-instant : goal.returns-clause-instant
returns-clause-instant c plant table h other command raw same = instant_by_past plant table h other command raw same

pub returns-clause-clock : goal.returns-clause-clock
returns-clause-clock c plant table h other same = ap (λ p. p.clock) same

pub returns-clause-points : goal.returns-clause-points
returns-clause-points c plant table h other same = ap (λ p. p.points) same

pub returns-clause-accepted : goal.returns-clause-accepted
returns-clause-accepted c plant table h other same = ap (λ p. p.accepted) same
