use Rattle.std.proofs.Common.{◌≡◌, ◌∙◌, sym, ap, [], ◌∷◌}
use Rattle.sfc_cases.specs.Deeds.{parts}
use Rattle.sfc_cases.specs.Reading.{before_comma}
use Rattle.sfc_cases.proofs.Parts.{last_part, next_part, none_left, shorter}
use Rattle.sfc_cases.proofs.expecting.first_part.Goals as goal

pub returns-in-Some-clause-more : goal.returns-in-Some-clause-more
returns-in-Some-clause-more c =
    let split = c.split_part.ensures in
    next_part c.args.text.now c.in-Some.field-0-0.now c.in-Some.rest.now (sym (ap (λ s. s.1) split) ∙ c.in-Some.ensures.cases.0)
    ∙ ap (λ s. s.0 ∷ parts c.in-Some.rest.now) (sym split)

pub returns-in-Some-clause-shorter : goal.returns-in-Some-clause-shorter
returns-in-Some-clause-shorter c =
    shorter c.args.text.now c.in-Some.field-0-0.now c.in-Some.rest.now (sym (ap (λ s. s.1) c.split_part.ensures) ∙ c.in-Some.ensures.cases.0)

pub returns-in-None-clause-last : goal.returns-in-None-clause-last
returns-in-None-clause-last c = λ _.
    let split = c.split_part.ensures in
    last_part c.args.text.now (sym (ap (λ s. s.1) split) ∙ none_left c.split_part.result.1.now c.in-None.ensures.cases)
    ∙ ap (λ s. s.0 ∷ []) (sym split)
