use Rattle.std.proofs.Common.{◌≡◌, List, Some, slice_get, subst}
use Rattle.sfc_output.specs.declared.effects.Effects.{Effects}
use Rattle.sfc_output.specs.Memories.{IsRight}
use Rattle.sfc_output.proofs.Kept.{all_pushed}
use Rattle.sfc_output.proofs.kept_lines.ProgramMemory.grow.Goals as goal

pub places-preserved : goal.places-preserved
places-preserved c space tables right place effects there known =
    all_pushed (λ k e. IsRight space tables e) c.places.self.effects.items c.in_ok-new.field-0 (c.places.invariant space tables right)
    (c.in_ok-new.ensures space tables) place effects
    (subst (λ (all : List Effects). slice_get all place ≡ Some effects) c.in_ok-push.ensures.items there) known
