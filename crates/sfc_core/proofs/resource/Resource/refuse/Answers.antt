use Rattle.std.proofs.Common.{w64, SFits, to_z-of_z, ◌∙◌, sym, ap, Option}
use Rattle.sfc_events.specs.declared.refusal.Refusal.{Refusal}
use Rattle.sfc_core.specs.Agreement.{Agrees, plant_of}
use Rattle.sfc_core.specs.Due.{calls_at, calls_of, singles_of}
use Rattle.sfc_core.specs.Private.Ready.{flags_of}
use Rattle.sfc_core.specs.PlantState.{state_of}
use Rattle.sfc_core.specs.Verdict.{or_then, turn_refusal}
use Rattle.sfc_core.proofs.Verdicts.{by_parts, by_turn, singles_there}
use Rattle.sfc_core.proofs.resource.Resource.refuse.Goals as goal

pub returns-in-Some : goal.returns-in-Some
unfolding Agrees plant_of
returns-in-Some c h a =
    let plant = c.args.self.now.plant in
    let fits : SFits w64 c.args.t = c.ranges.t in
    sym (by_parts plant h c.args.event c.args.t c.refuse_named.result (simp (to_z-of_z, fits) at (c.refuse_named.ensures.value h a))
    ∙ ap (λ (o : Option Refusal). or_then o (turn_refusal plant.tasks (singles_of plant h) (calls_at plant h c.args.t) c.args.event c.args.t)) c.in-Some.is)

pub returns-in-None : goal.returns-in-None
unfolding Agrees plant_of
returns-in-None c h a =
    let plant = c.args.self.now.plant in
    let fits : SFits w64 c.args.t = c.ranges.t in
    let there = singles_there plant h c.args.self.now.singles (c.args.self.now.singles_read (state_of plant h) a.instances_agree) in
    sym (by_turn plant h c.args.event c.args.t c.refuse_named.result (simp (to_z-of_z, fits) at (c.refuse_named.ensures.value h a))
    c.in-None.is (flags_of c.args.self.now.singles) there c.refuse_turn.result
    (simp (to_z-of_z, fits, c.as_slice-singles.ensures) at (c.refuse_turn.ensures.value plant.tasks (calls_of plant h) a.tasked)))
