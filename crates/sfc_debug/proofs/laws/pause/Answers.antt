use Rattle.sfc_debug.proofs.Pauses.{same_after, same_instant_after, same_told, stop_is_done, go_is_done}
use Rattle.sfc_debug.proofs.laws.pause.Goals as goal

pub returns-clause-verdict : goal.returns-clause-verdict
returns-clause-verdict c plant table h later r d command raw is from = same_after plant table h later r d command raw is from

pub returns-clause-instant : goal.returns-clause-instant
returns-clause-instant c plant table h later r d command raw is from =
    same_instant_after plant table h later r d command raw is from

pub returns-clause-told : goal.returns-clause-told
returns-clause-told c plant table h later r d is = same_told plant table h later r d is

pub returns-clause-stop : goal.returns-clause-stop
returns-clause-stop c plant table h r d is from late = stop_is_done plant table h r d is from late

pub returns-clause-go : goal.returns-clause-go
returns-clause-go c plant table h r d is from late = go_is_done plant table h r d is from late
