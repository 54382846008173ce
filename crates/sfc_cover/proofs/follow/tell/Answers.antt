use Rattle.std.proofs.Common.{◌≡◌, ◌∙◌, ◌∷◌, Some, None, rules, subst, sym, w64, SFits, to_z-of_z}
use Rattle.sfc_plant.specs.Plants.{PlantData}
use Rattle.sfc_events.specs.Commands.{event_of}
use Rattle.sfc_replay.specs.sfc_instances.Agreement.{InstancesAgree}
use Rattle.sfc_replay.specs.sfc_instances.PlantState.{PlantState}
use Rattle.sfc_replay.specs.sfc_core.PlantState.{after_event}
use Rattle.sfc_replay.specs.sfc_debug.Agreement.{plant_of, table_of}
use Rattle.sfc_cover.specs.Private.Given.{IsGiven}
use Rattle.sfc_cover.proofs.Following.{event_followed, nothing_followed}
use Rattle.sfc_cover.proofs.follow.tell.Goals as goal

pub returns-in-Some-clause-agrees : goal.returns-in-Some-clause-agrees
returns-in-Some-clause-agrees c h raw agrees ok beside =
    let d = c.args.debugger.now in
    let fits : SFits w64 c.run_instant-t.result = search rules in
    let is : event_of c.args.command ≡ Some c.in-Some.event = sym c.event.ensures ∙ c.in-Some.is in
    let same : c.plant.result.now ≡ plant_of d = c.plant.ensures ∙ c.resource.ensures.plant in
    event_followed (plant_of d) (table_of d) h c.args.command raw ok c.in-Some.event c.args.instances.now c.follow_event.new.instances
    c.run_instant-t.result is (c.run_instant-t.ensures ((c.args.command, raw) ∷ h) agrees)
    (subst (λ (p : PlantData). (state : PlantState) → InstancesAgree p c.args.instances.now state → IsGiven p state.changes c.in-Some.event
    c.run_instant-t.result
    → InstancesAgree p c.follow_event.new.instances (after_event p c.in-Some.event c.run_instant-t.result state)) same
    (simp (to_z-of_z, fits) at c.follow_event.ensures.agrees)) beside

pub returns-in_default-clause-agrees : goal.returns-in_default-clause-agrees
returns-in_default-clause-agrees c h raw agrees ok beside =
    let d = c.args.debugger.now in
    let is : event_of c.args.command ≡ None = sym c.event.ensures ∙ c.in_default.is in
    nothing_followed (plant_of d) (table_of d) h c.args.command raw ok c.args.instances.now is beside
