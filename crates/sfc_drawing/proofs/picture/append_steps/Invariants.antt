use Rattle.std.proofs.Common.{◌≡◌, ◌++◌, take, flat_map}
use Rattle.sfc_drawing.specs.Steps.{step_text}
use Rattle.sfc_drawing.proofs.picture.append_steps.Given as goal

abbrev pub invariant-loop-step : goal.invariant-loop-step
invariant-loop-step l = l.out.items ≡ l.initial.out.items ++ flat_map (step_text l.chart) (take l.step-index l.steps)
