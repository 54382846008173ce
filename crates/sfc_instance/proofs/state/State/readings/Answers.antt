use Rattle.std.proofs.Common.{to_z-of_z}
use Rattle.sfc_instance.specs.Life.{evolution_scans}
use Rattle.sfc_instance.specs.Agreement.{StateAgrees}
use Rattle.sfc_instance.proofs.Readings.{times_are}
use Rattle.sfc_instance.proofs.state.State.readings.Goals as goal

pub returns-clause-active : goal.returns-clause-active
unfolding StateAgrees
returns-clause-active c tables life h = c.active_flags.ensures.flags tables (evolution_scans life) h.steps

pub returns-clause-times : goal.returns-clause-times
unfolding StateAgrees
returns-clause-times c tables life h =
    times_are tables life c.args.t c.args.self.now.steps c.active_flags.result.now c.since.result.now c.held_times.result.now _ h.steps
    (c.active_flags.ensures.flags tables (evolution_scans life) h.steps)
    c.since.ensures.value c.held_times.ensures.value (to_z-of_z c.ranges.t)
