use Rattle.std.proofs.Common.{◌≡◌, ◌⊎◌, inl, inr, sym, ◌∙◌}
use Rattle.sfc_judge.specs.Running.Benches.{steered_in}
use Rattle.sfc_test.specs.declared.asked.Asked.{Asked}
use Rattle.sfc_test.specs.declared.asked.Asked.TheVariants.{Names, Results, Tap}
use Rattle.sfc_test.specs.Answers.{tally_in}
use Rattle.sfc_test.specs.Running.{case_in}
use Rattle.sfc_test.specs.Taking.{wish_of}
use Rattle.sfc_test.proofs.CasesTold.{one_told, one_wanted}
use Rattle.sfc_test.proofs.suite.Suite.tell_case.Goals as goal

not_names : (asked : Asked) → (asked ≡ Results) ⊎ (asked ≡ Tap) → asked ≡ Names → ⊥
not_names asked (inl is) names = cc
not_names asked (inr is) names = cc

pub returns-in_ok-text-in-Results-clause-told : goal.returns-in_ok-text-in-Results-clause-told
returns-in_ok-text-in-Results-clause-told g c =
    let steered = steered_in c.args.bench.now in
    let wish = wish_of c.args.job in
    let one = case_in c.args.titled in
    let old = tally_in c.args.self.now in
    let new = tally_in c.tell_run.new.self in
    let text = c.in_ok-text-in-Results.text.items in
    one_wanted wish steered one old new text (sym c.has_word.ensures ∙ c.if-not-has_word.false)
    (one_told steered wish.file wish.asked one old new text (not_names wish.asked c.in-Results.is) c.in_ok-text-in-Results.ensures.told)
