-- Numbers that are counts.
use Rattle.std.proofs.Common.{◌≡◌, ℕ, suc, ◌+◌, ◌-◌, ◌^◌, ◌≤◌, List, [], ◌∷◌, ◌++◌, flat_map, Bool, true, false, refl, ap, ◌∙◌, arith}
use Rattle.std.proofs.Math.Nat.{zero-add}
use Rattle.sfc_test.specs.declared.asked.Asked.TheVariants.{Results}
use Rattle.sfc_test.specs.Cases.{TitledCase, has_word, wanted}
use Rattle.sfc_test.specs.Results.{CaseResult, failed_among, passed_among}
use Rattle.sfc_test.specs.Tallies.{Tally, behind_one, behind_results, counted, no_cases, results_text}
use Rattle.sfc_test.specs.Texts.{result_text}

one_more : (a n x : ℕ) → x ≡ counted (counted (a + 1) + n) → x ≡ counted (a + suc n)
one_more a n x e = omega (arith, e)

passed_by : (file : List ℕ) (t : Tally) (r : CaseResult) (rs : List CaseResult) (b : Bool) → r.passed ≡ b → t.passed ≤ 2 ^ 64 - 1
    → ((u : Tally) → u.passed ≤ 2 ^ 64 - 1 → (behind_results file u rs).passed ≡ counted (u.passed + passed_among rs))
    → (behind_results file t (r ∷ rs)).passed ≡ counted (t.passed + passed_among (r ∷ rs))
passed_by file t r rs true e h more =
    let next = more (behind_one file t r) (rw e (omega arith)) in
    rw e (one_more t.passed (passed_among rs) _ (rw e at next))
passed_by file t r rs false e h more =
    let next = more (behind_one file t r) (rw e h) in
    rw e (rw e at next)

passed_from : (file : List ℕ) (rs : List CaseResult) (t : Tally) → t.passed ≤ 2 ^ 64 - 1
    → (behind_results file t rs).passed ≡ counted (t.passed + passed_among rs)
passed_from file [] t h = omega arith
passed_from file (r ∷ rs) t h = passed_by file t r rs r.passed refl h (passed_from file rs)

failed_by : (file : List ℕ) (t : Tally) (r : CaseResult) (rs : List CaseResult) (b : Bool) → r.passed ≡ b → t.failed ≤ 2 ^ 64 - 1
    → ((u : Tally) → u.failed ≤ 2 ^ 64 - 1 → (behind_results file u rs).failed ≡ counted (u.failed + failed_among rs))
    → (behind_results file t (r ∷ rs)).failed ≡ counted (t.failed + failed_among (r ∷ rs))
failed_by file t r rs true e h more =
    let next = more (behind_one file t r) (rw e h) in
    rw e (rw e at next)
failed_by file t r rs false e h more =
    let next = more (behind_one file t r) (rw e (omega arith)) in
    rw e (one_more t.failed (failed_among rs) _ (rw e at next))

failed_from : (file : List ℕ) (rs : List CaseResult) (t : Tally) → t.failed ≤ 2 ^ 64 - 1
    → (behind_results file t rs).failed ≡ counted (t.failed + failed_among rs)
failed_from file [] t h = omega arith
failed_from file (r ∷ rs) t h = failed_by file t r rs r.passed refl h (failed_from file rs)

-- from none on
pub passed_counted : (file : List ℕ) (rs : List CaseResult) → (behind_results file no_cases rs).passed ≡ counted (passed_among rs)
passed_counted file rs = passed_from file rs no_cases (omega arith) ∙ ap counted (zero-add (passed_among rs))

pub failed_counted : (file : List ℕ) (rs : List CaseResult) → (behind_results file no_cases rs).failed ≡ counted (failed_among rs)
failed_counted file rs = failed_from file rs no_cases (omega arith) ∙ ap counted (zero-add (failed_among rs))

pub text_each : (file : List ℕ) (t : Tally) (rs : List CaseResult) → results_text Results file t rs ≡ flat_map result_text rs
text_each file t [] = refl
text_each file t (r ∷ rs) = ap (λ (x : List ℕ). result_text r ++ x) (text_each file (behind_one file t r) rs)

empty_word : (title : List ℕ) → has_word [] title ≡ true
empty_word [] = refl
empty_word (b ∷ title) = refl

pub each_wanted : (cs : List TitledCase) → wanted [] cs ≡ cs
each_wanted [] = refl
each_wanted (c ∷ cs) = rw (empty_word c.title) (ap (λ x. c ∷ x) (each_wanted cs))
