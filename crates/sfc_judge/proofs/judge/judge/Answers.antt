use Rattle.std.proofs.Common.{◌∙◌, sym, ap, ◌∷◌, [], List}
use Rattle.sfc_replay.specs.sfc_debug.Steered.{Steered}
use Rattle.sfc_cases.specs.declared.line.Line.{Line}
use Rattle.sfc_judge.specs.Running.Benches.{steered_in}
use Rattle.sfc_judge.specs.Running.Watching.{all_held, held_in, rest_passes}
use Rattle.sfc_judge.proofs.judge.judge.Goals as goal

pub returns-clause-passed : goal.returns-clause-passed
returns-clause-passed c =
    let st : Steered = steered_in c.args.bench.now in
    let rest = c.lines.invariant.rest in
    c.ended.ensures rest.0 rest.1
    ∙ ap (λ (s : Steered). all_held s (held_in c.lines.pending) (rest.0 ∷ [])) c.lines.invariant.steered
    ∙ sym (rest.2 ∙ ap (λ (ls : List Line). rest_passes st rest.0 (held_in c.lines.pending) ls) c.in_default.ensures)
