use Rattle.std.proofs.Common.{[], ◌∷◌}
use Rattle.sfc_run.proofs.RowLines.{hears_row, hears_then}
use Rattle.sfc_run.proofs.Showing.{on_ok}
use Rattle.sfc_run.proofs.watch.Watch.append_both.Goals as goal

pub returns-clause-hears : goal.returns-clause-hears
returns-clause-hears c =
    let old = c.args.self.now.alarms in
    let mid = c.take.new.self in
    let told = c.in_ok-take.ensures.told in
    on_ok c.resume.result
    (λ more. hears_then old mid c.resume.new.alarms (c.args.row ∷ []) [] c.args.texts.now.told c.take.new.told c.resume.new.told
    (hears_row old mid c.args.row c.args.texts.now.told c.take.new.told told) more)
    c.resume.ensures.hears
