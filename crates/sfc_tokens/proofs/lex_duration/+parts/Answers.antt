use Rattle.std.proofs.Common.{Some, None, sym, ap, ◌∙◌}
use Rattle.sfc_tokens.specs.Lexing.Durations.{Split, part, interval}
use Rattle.sfc_tokens.proofs.Units.{interval_by}
use Rattle.sfc_tokens.proofs.lex_duration.+parts.Goals as goal

pub parts-returns-in-Some-clause-value : goal.parts-returns-in-Some-clause-value
parts-returns-in-Some-clause-value t c =
    let r = c.split_part.result in
    let s : Split = (r.0.now, r.1.now, r.2.now, r.3.now) in
    let found = c.in-Some.ensures.0 in
    c.part.ensures.value r.2.now
    ∙ ap (λ (x : Split). part c.in-Some.unit x (interval c.in-Some.smaller.now)) c.split_part.ensures
    ∙ sym (interval_by c.args.units.now c.args.word.now s (Some (c.in-Some.unit, c.in-Some.smaller.now)) c.split_part.ensures found)

pub parts-returns-in-None-clause-value : goal.parts-returns-in-None-clause-value
parts-returns-in-None-clause-value t c =
    let r = c.split_part.result in
    let s : Split = (r.0.now, r.1.now, r.2.now, r.3.now) in
    sym (interval_by c.args.units.now c.args.word.now s None c.split_part.ensures c.in-None.ensures)
