use Rattle.std.proofs.Common.{◌≡◌, ◌==◌, length}
use Rattle.std.specs.List.{list_any}
use Rattle.sfc_judge.proofs.bench.is_among.Given as goal

abbrev pub invariant-steps : goal.invariant-steps
invariant-steps l = list_any (λ s. s.0 == l.step.0) l.steps ≡ list_any (λ s. s.0 == l.step.0) l.rest

abbrev pub decreases-steps : goal.decreases-steps
decreases-steps l = length l.rest
