use Rattle.sfc_evolve.specs.Evolution.{is_activated, is_deactivated}
use Rattle.sfc_evolve.proofs.NumberedLooks.{never, since, until}
use Rattle.sfc_evolve.proofs.Next.{apart}
use Rattle.sfc_evolve.proofs.laws.step_times.Goals as goal

pub returns-clause-never : goal.returns-clause-never
returns-clause-never c tables rows s now none =
    never (is_activated tables s) (is_deactivated tables s) (λ row. row.at) (apart tables s) rows now none

pub returns-clause-active : goal.returns-clause-active
returns-clause-active c tables rows s a now latest none =
    since (is_activated tables s) (is_deactivated tables s) (λ row. row.at) (apart tables s) rows a now latest none

pub returns-clause-left : goal.returns-clause-left
returns-clause-left c tables rows s a k now latest lt le left none =
    until (is_activated tables s) (is_deactivated tables s) (λ row. row.at) (apart tables s) rows a k now latest lt le left none
