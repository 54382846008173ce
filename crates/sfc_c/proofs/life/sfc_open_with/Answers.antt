use Rattle.std.proofs.Common.{[], refl, subst, sym}
use Rattle.sfc_c.specs.Handles.{Holds}
use Rattle.sfc_c.specs.Resources.{steered_in}
use Rattle.sfc_c.proofs.life.sfc_open_with.Goals as goal

pub returns-in-Ok-clause-opened : goal.returns-in-Ok-clause-opened
returns-in-Ok-clause-opened c zero =
    let s = steered_in c.in-Ok.made.value in
    (s, c.in-Ok.ensures.opened, c.in-Ok.ensures.table, subst (λ held. Holds held s []) (sym c.put.ensures) (refl, c.in-Ok.ensures.stands))
