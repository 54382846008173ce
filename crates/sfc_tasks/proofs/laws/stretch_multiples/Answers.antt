use Rattle.sfc_tasks.proofs.Apart.{by_kind, multiple_in, in_multiples, each_once}
use Rattle.sfc_tasks.proofs.laws.stretch_multiples.Goals as goal

pub returns-clause-kinds : goal.returns-clause-kinds
returns-clause-kinds c interval k before stretch = by_kind interval k before stretch

pub returns-clause-members : goal.returns-clause-members
returns-clause-members c interval k before stretch u =
    (multiple_in interval k before stretch u, in_multiples interval k before stretch u)

pub returns-clause-rise : goal.returns-clause-rise
returns-clause-rise c interval k before stretch in_order = each_once interval k before stretch in_order
