-- The steps before a transition.
use Rattle.std.proofs.Common.{◌≡◌, ◌<◌, List, [], length, sym, subst}
use Rattle.std.specs.List.{All}
use Rattle.sfc_base.specs.declared.ids.TransitionId.{TransitionId}
use Rattle.sfc_base.specs.declared.references.StepId.{StepId}
use Rattle.sfc_replay.specs.sfc_tables.Tables.{Tabled, AreTables, sides_at}

-- they are the chart's
pub within : (tables shown : Tabled) (tr : TransitionId) (steps : List StepId) → AreTables tables → tables ≡ shown → tr.0 < length shown.sides
    → steps ≡ (sides_at tables.sides tr).preceding → All (λ (s : StepId). s.0 < length shown.initial) steps
within tables shown tr steps sound e lt is =
    subst (λ (t : Tabled). All (λ (s : StepId). s.0 < length t.initial) steps) e
    (subst (λ (xs : List StepId). All (λ (s : StepId). s.0 < length tables.initial) xs) (sym is)
    (sound.sides tr.0 record { preceding = []; following = [] } (subst (λ (t : Tabled). tr.0 < length t.sides) (sym e) lt)).preceding)
