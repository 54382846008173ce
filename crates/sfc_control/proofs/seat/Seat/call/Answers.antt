use Rattle.sfc_control.proofs.seat.Seat.call.Goals as goal

pub returns-clause-entered : goal.returns-clause-entered
returns-clause-entered g c =
    let seen = c.call_seen.ensures.entered in
    (seen.0, seen.1, seen.2, seen.3)
