use Rattle.std.proofs.Common.{sym, ap, subst}
use Rattle.sfc_replay.specs.sfc_debug.Steered.{Steered}
use Rattle.sfc_judge.specs.Running.Benches.{steered_in}
use Rattle.sfc_judge.specs.Running.Watching.{Held, LooksAt, as_held}
use Rattle.sfc_judge.proofs.Watched.{looks_response, looks_steady}
use Rattle.sfc_judge.proofs.pending.Watched.look.Goals as goal

pub returns-in-Stays-clause-looks : goal.returns-in-Stays-clause-looks
returns-in-Stays-clause-looks c = λ m stands.
    let st : Steered = steered_in c.args.bench.now in
    let old : Held = as_held c.args.self.now in
    subst (λ (h : Held). LooksAt st m old h c.look_at.result) (sym (ap as_held c.look_at.ensures.same))
    (looks_steady st m old c.in-Stays.steady c.in-Stays.is c.look_at.new.self.is_over (c.look_at.ensures.over m stands) c.look_at.result
    (c.look_at.ensures.result m stands))

pub returns-in-Responds-clause-looks : goal.returns-in-Responds-clause-looks
returns-in-Responds-clause-looks c = λ m stands.
    let st : Steered = steered_in c.args.bench.now in
    let old : Held = as_held c.args.self.now in
    subst (λ (h : Held). LooksAt st m old h c.look_for.result) (sym (ap as_held c.look_for.ensures.same))
    (looks_response st m old c.in-Responds.response c.in-Responds.is c.look_for.new.self.was c.look_for.new.self.due
    (c.look_for.ensures.was m stands) (c.look_for.ensures.due m stands) c.look_for.result (c.look_for.ensures.result m stands))
