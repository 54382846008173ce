use Rattle.sfc_core.proofs.Stretched.{late_counted, scans_counted, each_counted, multiples_once}
use Rattle.sfc_core.proofs.laws.overruns.Goals as goal

pub returns-clause-counted : goal.returns-clause-counted
returns-clause-counted c plant h task since ended are = late_counted plant h task since ended are

pub returns-clause-scans : goal.returns-clause-scans
returns-clause-scans c plant h task since ended are = scans_counted plant h task since ended are

pub returns-clause-once : goal.returns-clause-once
returns-clause-once c plant h task since ended are = each_counted plant h task since ended are

pub returns-clause-multiples : goal.returns-clause-multiples
returns-clause-multiples c plant h task ordered = multiples_once plant h task ordered
