use Rattle.sfc_evolve.proofs.FirstScan.{clears_nothing, starts}
use Rattle.sfc_evolve.proofs.laws.first_scan.Goals as goal

pub returns-clause-clears : goal.returns-clause-clears
returns-clause-clears c tables scan sound tr = clears_nothing tables sound scan tr

pub returns-clause-starts : goal.returns-clause-starts
returns-clause-starts c tables scan sound s = starts tables sound scan s
