use Rattle.std.proofs.Common.{◌∙◌, ◌∷◌, sym, subst, Bool, false}
use Rattle.sfc_replay.specs.sfc_debug.Steered.{Steered}
use Rattle.sfc_cases.specs.declared.watch.Watch.{Watch}
use Rattle.sfc_judge.specs.Running.Benches.{steered_in}
use Rattle.sfc_judge.specs.Running.Watching.{Begins, held_in}
use Rattle.sfc_judge.proofs.Watched.{first_is}
use Rattle.sfc_judge.proofs.judge.begin_watch.Goals as goal

pub returns : goal.returns
returns c = λ m stands ms.
    let st : Steered = steered_in c.args.bench.now in
    let watch : Watch = c.args.watched.now in
    let begun = subst (λ (t : Bool). Begins st m watch (held_in c.args.pending.now) (held_in c.begin.new.self) t) c.if-branch.false
    (c.in_ok-begin.ensures m stands) in
    sym (first_is st m watch (m ∷ ms)) ∙ begun.2 ms
