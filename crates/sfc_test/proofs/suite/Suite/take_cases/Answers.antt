use Rattle.std.proofs.Common.{◌∷◌, [], refl, sym, subst, ◌∙◌}
use Rattle.std.proofs.lemmas.Result.{err_from_is_err_and}
use Rattle.std.specs.Io.KnownBytes.{Appends}
use Rattle.sfc_base.specs.Writing.{AppendsFront}
use Rattle.sfc_judge.specs.Running.Benches.{steered_in}
use Rattle.sfc_test.specs.Answers.{tally_in}
use Rattle.sfc_test.specs.Cases.{titled}
use Rattle.sfc_test.specs.Running.{case_in, cases_left}
use Rattle.sfc_test.specs.Taking.{IsUnderWay, TellsWanted, wish_of}
use Rattle.sfc_test.proofs.CasesTold.{begun, broken_off, broken_within, gone_on}
use Rattle.sfc_test.proofs.suite.Suite.take_cases.Goals as goal

pub cases-init : goal.cases-init
cases-init g c =
    let wish = wish_of c.args.job in
    let steered = steered_in c.args.bench.now in
    let all = titled c.args.job.source.file.name.now c.args.job.source.lines.now in
    let old = tally_in c.args.self.now in
    let before = g.W.Write.contents c.args.w.now in
    record {
      ready = c.requires.ready;
      steered = refl;
      chart = refl;
      told = subst (λ left. IsUnderWay wish steered all left old old before before) (sym c.of_file-rest.ensures) (begun wish steered all old before);
    }

pub cases-preserved : goal.cases-preserved
cases-preserved g c =
    let wish = wish_of c.args.job in
    let steered = steered_in c.args.bench.now in
    let all = titled c.args.job.source.file.name.now c.args.job.source.lines.now in
    let old = tally_in c.args.self.now in
    let before = g.W.Write.contents c.args.w.now in
    let text = c.in_ok-text.text.items in
    let one = case_in c.in-Some.titled in
    let now = tally_in c.cases.self in
    let new = tally_in c.tell_case.new.self in
    let mid = g.W.Write.contents c.cases.w in
    let behind = g.W.Write.contents c.put_all.new.writer in
    record {
      ready = c.in_ok-text.ensures.ready;
      steered = c.in_ok-text.ensures.steered ∙ c.cases.invariant.steered;
      chart = c.in_ok-text.ensures.chart ∙ c.cases.invariant.chart;
      told = gone_on wish steered all old before (cases_left c.cases.rest) (cases_left c.in-Some.others) one now new mid behind text
          c.cases.invariant.told c.in-Some.ensures
          (subst (λ s. TellsWanted wish s (one ∷ []) now new text) c.cases.invariant.steered c.in_ok-text.ensures.told)
          (subst (λ t. Appends mid behind t) c.deref.ensures.value c.in_ok-put_all.ensures);
    }

pub returns-in_err-text-clause-takes : goal.returns-in_err-text-clause-takes
returns-in_err-text-clause-takes g c =
    let p = err_from_is_err_and c.from_residual.result c.from_residual.ensures.1 in
    rw (p.1, p.2)
    (broken_off (wish_of c.args.job) (steered_in c.args.bench.now) (titled c.args.job.source.file.name.now c.args.job.source.lines.now)
    (tally_in c.args.self.now) (g.W.Write.contents c.args.w.now) (cases_left c.cases.rest) (tally_in c.cases.self) (g.W.Write.contents c.cases.w)
    c.cases.invariant.told)

pub returns-in_err-put_all-clause-takes : goal.returns-in_err-put_all-clause-takes
returns-in_err-put_all-clause-takes g c =
    let p = err_from_is_err_and c.from_residual-in_err-put_all.result c.from_residual-in_err-put_all.ensures.1 in
    let wish = wish_of c.args.job in
    let text = c.in_ok-text.text.items in
    let one = case_in c.in-Some.titled in
    let now = tally_in c.cases.self in
    let new = tally_in c.tell_case.new.self in
    let mid = g.W.Write.contents c.cases.w in
    let behind = g.W.Write.contents c.put_all.new.writer in
    rw (p.1, p.2)
    (broken_within wish (steered_in c.args.bench.now) (titled c.args.job.source.file.name.now c.args.job.source.lines.now)
    (tally_in c.args.self.now) (g.W.Write.contents c.args.w.now) (cases_left c.cases.rest) (cases_left c.in-Some.others) one now new mid behind text
    c.cases.invariant.told c.in-Some.ensures
    (subst (λ s. TellsWanted wish s (one ∷ []) now new text) c.cases.invariant.steered c.in_ok-text.ensures.told)
    (subst (λ t. AppendsFront mid behind t) c.deref.ensures.value c.in_err-put_all.ensures))
