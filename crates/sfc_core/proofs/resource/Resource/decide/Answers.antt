use Rattle.std.proofs.Common.{w64, SFits, to_z-of_z}
use Rattle.sfc_core.specs.Agreement.{Agrees, plant_of}
use Rattle.sfc_core.specs.Due.{calls_of}
use Rattle.sfc_core.specs.Private.Ready.{flags_of}
use Rattle.sfc_core.specs.PlantState.{state_of}
use Rattle.sfc_core.proofs.Verdicts.{none_of, singles_there, refused_named, refused_turn, granted, ready_there}
use Rattle.sfc_core.proofs.resource.Resource.decide.Goals as goal

pub accept-requires-clause-ready : goal.accept-requires-clause-ready
unfolding Agrees plant_of
accept-requires-clause-ready c h a =
    let plant = c.args.self.now.plant in
    let fits : SFits w64 c.args.t = c.ranges.t in
    let there = singles_there plant h c.args.self.now.singles (c.args.self.now.singles_read (state_of plant h) a.instances_agree) in
    ready_there plant h c.args.event c.args.t c.refuse_named.result (simp (to_z-of_z, fits) at (c.refuse_named.ensures.value h a))
    (none_of c.refuse_named.result c.in_default.not-Some) c.args.self.now.singles there

pub returns-in-Some-clause-answer : goal.returns-in-Some-clause-answer
unfolding Agrees plant_of
returns-in-Some-clause-answer c h a =
    let fits : SFits w64 c.args.t = c.ranges.t in
    refused_named c.args.self.now.plant h c.args.event c.args.t c.refuse_named.result
    (simp (to_z-of_z, fits) at (c.refuse_named.ensures.value h a)) c.in-Some.refusal c.in-Some.is

pub returns-in-Some-refuse_turn-clause-answer : goal.returns-in-Some-refuse_turn-clause-answer
unfolding Agrees plant_of
returns-in-Some-refuse_turn-clause-answer c h a =
    let plant = c.args.self.now.plant in
    let fits : SFits w64 c.args.t = c.ranges.t in
    let there = singles_there plant h c.args.self.now.singles (c.args.self.now.singles_read (state_of plant h) a.instances_agree) in
    refused_turn plant h c.args.event c.args.t c.refuse_named.result (simp (to_z-of_z, fits) at (c.refuse_named.ensures.value h a))
    (none_of c.refuse_named.result c.in_default.not-Some) (flags_of c.args.self.now.singles) there c.refuse_turn.result
    (simp (to_z-of_z, fits, c.as_slice.ensures) at (c.refuse_turn.ensures.value plant.tasks (calls_of plant h) a.tasked))
    c.in-Some-refuse_turn.refusal c.in-Some-refuse_turn.is

pub returns-in-None-clause-answer : goal.returns-in-None-clause-answer
unfolding Agrees plant_of
returns-in-None-clause-answer c h a =
    let plant = c.args.self.now.plant in
    let fits : SFits w64 c.args.t = c.ranges.t in
    let there = singles_there plant h c.args.self.now.singles (c.args.self.now.singles_read (state_of plant h) a.instances_agree) in
    granted plant h c.args.event c.args.t c.refuse_named.result (simp (to_z-of_z, fits) at (c.refuse_named.ensures.value h a))
    (none_of c.refuse_named.result c.in_default.not-Some) (flags_of c.args.self.now.singles) there c.refuse_turn.result
    (simp (to_z-of_z, fits, c.as_slice.ensures) at (c.refuse_turn.ensures.value plant.tasks (calls_of plant h) a.tasked))
    c.accept.result c.in-None.is (simp (to_z-of_z, fits) at (c.accept.ensures.value h a))
