use Rattle.std.proofs.Common.{◌≡◌, ◌∙◌, sym, ap, subst}
use Rattle.std.specs.Prelude.{IfSome, slice_get, unwrap_or}
use Rattle.sfc_judge.specs.Holding.{told_overruns}
use Rattle.sfc_judge.specs.Running.Benches.{Stands, steered_in}
use Rattle.sfc_judge.proofs.Told.{told_there}
use Rattle.sfc_judge.proofs.bench.Bench.told_before.Goals as goal

pub returns-in-Some : goal.returns-in-Some
unfolding Stands steered_in
returns-in-Some c = λ m stands.
    let st = steered_in c.args.self.now in
    let task = c.in-Some.task in
    subst (λ o. IfSome o (λ task. c.told_in.result ≡ told_overruns st m.history task)) (sym (sym c.task_of.ensures ∙ c.in-Some.is))
    (c.told_in.ensures ∙ ap (λ xs. unwrap_or (slice_get xs task.0) 0) c.deref.ensures.value
    ∙ told_there st c.args.self.now.told.items m.history task stands.count stands.told)
