use Rattle.std.proofs.Common.{◌≡◌, ◌∙◌, ◌∷◌, Ok, ap, sym, w64, SFits, to_z-of_z}
use Rattle.sfc_core.specs.Agreement as core
use Rattle.sfc_core.specs.PlantState.{state_of}
use Rattle.sfc_core.specs.Verdict.{verdict, first_refusal, answer}
use Rattle.sfc_debug.specs.Private.Telling.{hit_by}
use Rattle.sfc_debug.specs.States.{hits}
use Rattle.sfc_debug.specs.Verdict.{answer_by}
use Rattle.sfc_debug.proofs.Hitting.{told, answered}
use Rattle.sfc_debug.proofs.debugger.Debugger.apply.Goals as goal

pub returns-clause-answer : goal.returns-clause-answer
returns-clause-answer c h a =
    let fits : SFits w64 c.args.t = c.ranges.t in
    let s = c.args.self.now in
    let plant = core.plant_of s.resource in
    let table = s.conditions.items in
    let command = c.args.command in
    let event = c.args.event in
    let t = c.args.t in
    let outcome = c.in_ok-outcome.outcome in
    let is : Ok outcome ≡ verdict plant h event t =
    sym c.in_ok-outcome.was ∙ simp (to_z-of_z, fits) at (c.apply.ensures.answer h a) in
    let out = answered (first_refusal plant h event t) (answer plant h event t) outcome is in
    let later : core.Agrees c.apply.new.self ((event, t) ∷ h) =
    simp (to_z-of_z, fits) at (c.in_ok-outcome.ensures.ok h a) in
    let same = c.apply.ensures.plant in
    let hit : c.has_hit-hit.result ≡ hits plant table command t s.points h =
    c.has_hit-hit.ensures.value ((event, t) ∷ h) later
    ∙ (λ i. hit_by (same i) table s.points command (out i) (state_of (same i) ((event, t) ∷ h)))
    ∙ told plant table s.points command event t h c.requires.event in
    ap Ok c.with_hit.ensures ∙ (λ i. answer_by (hit i) (is i))
