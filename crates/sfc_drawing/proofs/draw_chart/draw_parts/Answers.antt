use Rattle.std.proofs.Common.{rules, ◌+◌, length, ap, sym, ◌∙◌}
use Rattle.sfc_drawing.proofs.Lists.{apart_along, both_parts}
use Rattle.sfc_drawing.proofs.draw_chart.draw_parts.Goals as goal

pub returns-clause-parts : goal.returns-clause-parts
returns-clause-parts c = record {
  steps_drawn = search rules;
  transitions_drawn = search rules;
  apart = apart_along c.args.spots.now.layout.now.boxes.items _
      (both_parts c.args.spots.now.layout.now.boxes.items _ _ _ _ c.args.spots.now.steps
      (c.requires.boxes ∙ ap (λ ts. c.args.spots.now.steps + length ts) (sym c.as_slice-all.ensures))
      (c.requires.steps ∙ ap length (sym c.as_slice-steps.ensures))
      c.in_ok-steps.ensures.places c.in_ok-transitions.ensures.places)
      c.requires.apart;
}
