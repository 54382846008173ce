use Rattle.std.proofs.Common.{◌≡◌, ◌∙◌, ap, ◌++◌, ◌∷◌, [], ℕ, List, length, append_assoc, refl, rules, subst, sym}
use Rattle.std.proofs.lemmas.List.{append-nil}
use Rattle.sfc_why.specs.declared.report.Report.{Report}
use Rattle.sfc_tools.specs.Reports.{ArePages, IsPage}
use Rattle.sfc_tools.proofs.telling.append_pages.Goals as goal

-- nothing is left
all_told : (name : List ℕ) (all rest : List Report) (told : List ℕ) → length rest ≡ 0
    → ((more : List ℕ) → ArePages name rest more → ArePages name all (told ++ more)) → ArePages name all told
all_told name all [] told e more = subst (ArePages name all) (append-nil told) (more [] refl)
all_told name all (report ∷ rest) told e more = search rules

-- a page more
page_more : (name : List ℕ) (all rest after : List Report) (report : Report) (told front : List ℕ) → rest ≡ report ∷ after → IsPage name report front
    → ((more : List ℕ) → ArePages name rest more → ArePages name all (told ++ more))
    → (more : List ℕ) → ArePages name after more → ArePages name all ((told ++ front) ++ more)
page_more name all rest after report told front e page so_far more pages =
    rw (append_assoc told front more)
    (so_far (front ++ more) (subst (λ r. ArePages name r (front ++ more)) (sym e) (front, more, page, pages, refl)))

pub reports-preserved : goal.reports-preserved
reports-preserved c =
    let i = c.reports.invariant in
    let front : List ℕ = c.in_ok-page.page.items in (
      i.0 ++ front,
      c.in_ok-extend_from_slice.ensures.items ∙ ap (λ bytes. c.reports.text.items ++ bytes) c.deref.ensures.value
          ∙ ap (λ bytes. bytes ++ front) i.1 ∙ append_assoc c.args.text.now.items i.0 front,
      page_more c.args.name.now c.args.all.now c.reports.rest.now c.in-Some.more.now c.in-Some.report.now i.0 front c.in-Some.ensures.cases.0
          c.in_ok-page.ensures i.2,
    )

pub returns : goal.returns
returns c =
    let i = c.reports.invariant in
    (i.0, all_told c.args.name.now c.args.all.now c.reports.rest.now i.0 c.in_default.ensures.cases i.2, i.1)
