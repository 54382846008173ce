use Rattle.std.proofs.Common.{◌∙◌, ℕ, Option, ap, find, sym}
use Rattle.sfc_explain.specs.Finding.{is_sought}
use Rattle.sfc_explain.proofs.Found.{passes}
use Rattle.sfc_explain.proofs.finding.find_in.Goals as goal

pub returns-in-Some-clause-sought : goal.returns-in-Some-clause-sought
returns-in-Some-clause-sought c =
    passes (is_sought c.args.number c.args.name.now) (λ explanation. explanation.now) c.args.explanations.now c.explanation_numbered.result
    (c.explanation_numbered.ensures
    ∙ ap (λ (n : Option ℕ). find (is_sought n c.args.name.now) c.args.explanations.now) (sym c.in-Some.is))

pub returns-in-None-clause-sought : goal.returns-in-None-clause-sought
returns-in-None-clause-sought c =
    passes (is_sought c.args.number c.args.name.now) (λ explanation. explanation.now) c.args.explanations.now c.explanation_named.result
    (c.explanation_named.ensures
    ∙ ap (λ (n : Option ℕ). find (is_sought n c.args.name.now) c.args.explanations.now) (sym c.in-None.is))
