use Rattle.std.proofs.Common.{sym, subst}
use Rattle.sfc_replay.specs.sfc_debug.Histories.{TimedCommand}
use Rattle.sfc_replay.specs.sfc_debug.Steered.{Steered}
use Rattle.sfc_judge.specs.Moments.{behind_command, plain_step}
use Rattle.sfc_judge.specs.Running.Benches.{IsGiven, Stands}
use Rattle.sfc_judge.specs.Running.Cases.{lines_in}
use Rattle.sfc_judge.specs.Running.Watching.{Checks, held_in}
use Rattle.sfc_judge.proofs.judge.give.Goals as goal

pub returns-clause-checks : goal.returns-clause-checks
returns-clause-checks c = λ m stands.
    let timed : TimedCommand = (c.args.command, m.clock) in
    let same = c.give-given.ensures.steered in
    let gives = c.give-given.ensures.gives m stands in
    let new = c.give-given.new.self in
    subst (λ (s : Steered). Checks s m timed (lines_in c.args.behind) (held_in c.args.pending.now) (held_in c.check.new.pending) c.check.result) same
    (c.check.ensures m (plain_step m timed) (subst (λ (s : Steered). IsGiven s m timed c.give-given.result) (sym same) gives.0)
    (subst (λ (s : Steered). Stands new (behind_command s m timed)) (sym same) gives.1))
