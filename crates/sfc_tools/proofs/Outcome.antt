-- The outcome of tests: by what was written.
use Rattle.std.proofs.Common.{◌≡◌, ℕ, List, [], ◌++◌, codes, flat_map, Option, Some, Ok, inl, inr, ap, subst, ◌∙◌}
use Rattle.sfc_test.specs.declared.asked.Asked.TheVariants.{Results}
use Rattle.sfc_test.specs.Answers.{Puts, SaysTests, TestsFrom, Wish}
use Rattle.sfc_test.specs.Cases.{titled}
use Rattle.sfc_test.specs.Results.{AreResults, failed_among, passed_among}
use Rattle.sfc_test.specs.Tallies.{Tally, behind_results, counted, counts_text, ending_text, no_cases}
use Rattle.sfc_test.specs.Texts.{result_text}
use Rattle.sfc_test.proofs.Counts.{each_wanted, failed_counted, passed_counted, text_each}
use Rattle.sfc_tools.specs.Outcomes.{IsOutcome, tests_of}

-- all cases, for a reader
abbrev pub all_of : Wish
all_of = record { file = codes "tests"; word = []; asked = Results }

pub outcome : (chart tests : List ℕ) (rest : Option (List ℕ)) (old new : Tally) (before text all : List ℕ) (done end : Unit {0})
    → before ≡ [] → old ≡ no_cases
    → TestsFrom (Some tests, rest) chart all_of old new (Some before, Some text) (Ok done)
    → Puts (ending_text Results new) (Some text, Some all) (Ok end) → IsOutcome chart (tests_of tests) all
outcome chart tests rest old new before text all done end none untold (inl h) put = absurd h
outcome chart tests rest old new before text all done end none untold (inr h) put =
    let file = codes "tests" in
    let runs = h.2 in
    let told = runs.holds.1 in
    let results = told.0 in
    let body = flat_map result_text results in
    let whole : text ≡ body =
    runs.holds.2 ∙ ap (λ b. b ++ runs.holds.0) none ∙ told.2 ∙ text_each file old results in
    let passed : new.passed ≡ counted (passed_among results) =
    ap (λ (t : Tally). t.passed) told.3 ∙ ap (λ (o : Tally). (behind_results file o results).passed) untold ∙ passed_counted file results in
    let failed : new.failed ≡ counted (failed_among results) =
    ap (λ (t : Tally). t.failed) told.3 ∙ ap (λ (o : Tally). (behind_results file o results).failed) untold ∙ failed_counted file results in
    record {
      steered = runs.steered;
      lines = runs.lines;
      said = subst (λ (t : List ℕ). SaysTests chart t runs.steered runs.lines) h.1.0 runs.said;
      holds = (
        results,
        subst (λ cases. AreResults runs.steered cases results) (each_wanted (titled file runs.lines)) told.1,
        put ∙ ap (λ (x : List ℕ). x ++ counts_text new.passed new.failed) whole
            ∙ ap (λ (n : ℕ). body ++ counts_text n new.failed) passed
            ∙ ap (λ (n : ℕ). body ++ counts_text (counted (passed_among results)) n) failed,
      );
    }
