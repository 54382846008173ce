use Rattle.std.proofs.Common.{◌≡◌, ◌++◌, ◌∙◌, List, ℕ, ℤ, ap, rules, to_z, of_z, w64}
use Rattle.std.proofs.lemmas.Result.{on_ok_weaker}
use Rattle.sfc_base.specs.TimeText.{time_text}
use Rattle.sfc_output.specs.Memories.{plain_scan_text, text_in}
use Rattle.sfc_page.specs.Lines.{written}
use Rattle.sfc_output.proofs.Scans.{kept_regrouped}
use Rattle.sfc_output.proofs.answer.put_plain_scan.Goals as goal

pub returns-clause-line : goal.returns-clause-line
returns-clause-line c fits =
    let plant = c.args.plant.now in
    let old = written c.args.out.now.items c.args.line.now in
    let kept : text_in c.in-Some.text.now ≡ plain_scan_text plant c.args.timed.0.0 =
    c.is_kept.ensures (plain_scan_text plant c.args.timed.0.0) (c.in-Some.ensures plant fits) c.if-is_kept.true in
    let same : to_z w64 (of_z w64 c.args.timed.1) ≡ c.args.timed.1 = search rules in
    on_ok_weaker c.put_behind_time.result
    (λ e. e ∙ ap (λ (t : ℤ). old ++ (time_text t ++ text_in c.in-Some.text.now)) same
    ∙ ap (λ (xs : List ℕ). old ++ (time_text c.args.timed.1 ++ xs)) kept
    ∙ ap (λ (xs : List ℕ). old ++ xs) (kept_regrouped plant c.args.timed.0 c.args.timed.1))
    c.put_behind_time.ensures
