use Rattle.sfc_instance.proofs.state.go_on.Goals as goal

pub returns-then-stay-clause-same_steps : goal.returns-then-stay-clause-same_steps
returns-then-stay-clause-same_steps c answer scans k =
    c.stay.ensures.same_steps c.if-stay.true (record { conditions = c.args.buffers.now.conditions.items; at = c.args.t }) scans
    (c.stay.ensures.done c.if-stay.true) k
