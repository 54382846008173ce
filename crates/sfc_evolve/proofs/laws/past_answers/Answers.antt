use Rattle.sfc_evolve.proofs.Pasts.{active_by, time_by_past, times_by, activated_by, cleared_by}
use Rattle.sfc_evolve.proofs.laws.past_answers.Goals as goal

pub returns-clause-active : goal.returns-clause-active
returns-clause-active c tables scans other s lt e = active_by tables scans other e s lt

pub returns-clause-time : goal.returns-clause-time
returns-clause-time c tables scans other s now lt e = time_by_past tables scans other e s now lt

pub returns-clause-times : goal.returns-clause-times
returns-clause-times c tables scans other now e = times_by tables scans other e now

pub returns-clause-cleared : goal.returns-clause-cleared
returns-clause-cleared c tables scans other tr e = cleared_by tables scans other e tr

pub returns-clause-activated : goal.returns-clause-activated
returns-clause-activated c tables scans other s lt e = activated_by tables scans other e s lt
