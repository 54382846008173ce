use Rattle.std.proofs.Common.{◌≡◌, ◌++◌, length}
use Rattle.std.specs.Prelude.{map, option_map}
use Rattle.sfc_cases.specs.Deeds.{all_steps, parts, step_said}
use Rattle.sfc_cases.proofs.expecting.active.Given as goal

abbrev pub invariant-parts : goal.invariant-parts
invariant-parts l = all_steps (map (step_said l.plant l.program) (parts l.text))
    ≡ option_map (λ steps. l.steps.items ++ steps) (all_steps (map (step_said l.plant l.program) (parts l.rest)))

abbrev pub decreases-parts : goal.decreases-parts
decreases-parts l = length l.rest
