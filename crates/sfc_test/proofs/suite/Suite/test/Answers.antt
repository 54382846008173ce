use Rattle.std.proofs.Common.{ℕ, List, refl, inl, inr, subst}
use Rattle.std.proofs.lemmas.Result.{err_from_is_err_and}
use Rattle.sfc_replay.specs.Reading.{Device}
use Rattle.sfc_replay.proofs.Replayed.{Keeps-same}
use Rattle.sfc_test.specs.Answers.{Tests, chart_in, tally_in, wish}
use Rattle.sfc_test.proofs.suite.Suite.test.Goals as goal

pub returns-in_err-text-clause-tests : goal.returns-in_err-text-clause-tests
returns-in_err-text-clause-tests g c =
    let p = err_from_is_err_and c.from_residual.result c.from_residual.ensures.1 in
    let w = g.W.Write.contents c.args.w.now in
    rw (p.1, p.2) (inl (c.in_err-text.ensures.faults, c.in_err-text.ensures.lost, Keeps-same w, refl))

pub returns-in_err-sources-clause-tests : goal.returns-in_err-sources-clause-tests
returns-in_err-sources-clause-tests g c =
    let p = err_from_is_err_and c.from_residual-in_err-sources.result c.from_residual-in_err-sources.ensures.1 in
    let w = g.W.Write.contents c.args.w.now in
    rw (p.1, p.2) (inr (c.in_ok-text.text.items, c.in_ok-text.ensures.taken, inl (Keeps-same w)))

pub returns-clause-tests : goal.returns-clause-tests
returns-clause-tests g c =
    let chart = chart_in c.args.self.now in
    let old = tally_in c.args.self.now in
    let new = tally_in c.test_file.new.self in
    let w : Device = (g.W.Write.contents c.args.w.now, g.W.Write.contents c.test_file.new.w) in
    let named = subst (λ (n : List ℕ). Tests chart c.deref.result.now (wish n c.args.choice) old new w c.test_file.result) c.as_bytes-2.ensures.value
    c.test_file.ensures.tests in
    inr (
      c.in_ok-text.text.items,
      c.in_ok-text.ensures.taken,
      subst (λ (t : List ℕ). Tests chart t (wish c.args.name.now c.args.choice) old new w c.test_file.result) c.deref.ensures.value named,
    )
