use Rattle.sfc_evolve.specs.Evolution.{is_activated, is_deactivated}
use Rattle.sfc_evolve.proofs.NumberedLooks.{to_number, from_number}
use Rattle.sfc_evolve.proofs.Next.{apart}
use Rattle.sfc_evolve.proofs.laws.active_steps.Goals as goal

pub returns : goal.returns
returns c tables rows s = (
  (λ e. let (j, r) = to_number (is_activated tables s) (is_deactivated tables s) (λ row. row.at) (apart tables s) rows e in
      (j, record { number = r.number; activated = r.came; stays = r.stays })),
  λ p. from_number (is_activated tables s) (is_deactivated tables s) (λ row. row.at) (apart tables s) rows p.0
      record { number = p.1.number; came = p.1.activated; stays = p.1.stays },
)
