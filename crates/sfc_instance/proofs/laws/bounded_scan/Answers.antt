use Rattle.sfc_instance.proofs.Bounds.{good_within, scan_within}
use Rattle.sfc_instance.proofs.laws.bounded_scan.Goals as goal

pub returns-clause-good : goal.returns-clause-good
returns-clause-good c = good_within

pub returns-clause-all : goal.returns-clause-all
returns-clause-all c = scan_within
