use Rattle.std.proofs.Common.{rules, ◌≡◌, ◌∙◌, ◌+◌, ◌<◌, ◌≤◌, sym, ap, subst, ℕ, ℤ, List, length, Option, w64, SFits, to_z, of_z, to_z-of_z}
use Rattle.sfc_plant.specs.Plants.{PlantData}
use Rattle.sfc_plant.specs.declared.task.Task.{Task}
use Rattle.sfc_replay.specs.sfc_debug.Agreement.{plant_of}
use Rattle.sfc_replay.specs.sfc_debug.Steered.{Steered}
use Rattle.sfc_session.specs.Scanning.{earlier, release_in}
use Rattle.sfc_c.specs.declared.scanning.Turn.TheVariants.{Taken, NoTurn}
use Rattle.sfc_c.specs.Advancing.{IsMade, TakesTurn, scan_of}
use Rattle.sfc_c.specs.Resources.{steered_in}
use Rattle.sfc_c.proofs.Trying.{GoesThrough, through_all, through_here, through_more}
use Rattle.sfc_c.proofs.scanning.take_turn.Goals as goal

pub returns-then-not-is_out_of_turn-clause-takes : goal.returns-then-not-is_out_of_turn-clause-takes
returns-then-not-is_out_of_turn-clause-takes c = λ h stands.
    let st : Steered = steered_in c.args.plc.now in
    let fits : SFits w64 c.args.raw = search rules in
    let at : ℤ = to_z w64 (of_z w64 c.args.raw) in
    let k : ℕ = c.tasks.number in
    let through = c.tasks.invariant.through h stands in
    let less : k < length st.plant.tasks =
    subst (λ (ts : List Task). k < length ts)
    (c.tasks-tasks.ensures.value ∙ ap (λ (p : PlantData). p.tasks) (c.plant.ensures ∙ c.resource.ensures.plant ∙ ap plant_of c.debugger.ensures)) c.tasks-test.true in
    let is : IsMade st h (scan_of k at) c.make_scan-made.result c.make_scan-made.new.plc =
    subst (λ (s : Steered). IsMade s h (scan_of k at) c.make_scan-made.result c.make_scan-made.new.plc) c.tasks.invariant.steered
    (c.make_scan-made.ensures.made h through.stands) in
    subst (λ (r : ℤ). TakesTurn st h r (Taken c.make_scan-made.result) c.make_scan-made.new.plc) (to_z-of_z fits)
    (through_here st h at c.tasks.plc c.make_scan-made.new.plc c.make_scan-made.result k c.tasks.earliest less through is
    (sym c.is_out_of_turn.ensures ∙ c.if-not-is_out_of_turn.true))

pub tasks-preserved : goal.tasks-preserved
tasks-preserved c = record {
  steered = c.make_scan-made.ensures.steered ∙ c.tasks.invariant.steered;
  slots = c.make_scan-made.ensures.slots ∙ c.tasks.invariant.slots;
  through = λ h stands.
      let st : Steered = steered_in c.args.plc.now in
      let at : ℤ = to_z w64 (of_z w64 c.args.raw) in
      let k : ℕ = c.tasks.number in
      let through = c.tasks.invariant.through h stands in
      let less : k < length st.plant.tasks =
      subst (λ (ts : List Task). k < length ts)
      (c.tasks-tasks.ensures.value ∙ ap (λ (p : PlantData). p.tasks) (c.plant.ensures ∙ c.resource.ensures.plant ∙ ap plant_of c.debugger.ensures)) c.tasks-test.true in
      let is : IsMade st h (scan_of k at) c.make_scan-made.result c.make_scan-made.new.plc =
      subst (λ (s : Steered). IsMade s h (scan_of k at) c.make_scan-made.result c.make_scan-made.new.plc) c.tasks.invariant.steered
      (c.make_scan-made.ensures.made h through.stands) in
      let earliest : earlier c.tasks.earliest (release_in c.make_scan-made.result.answer) ≡ c.earlier-earliest.result =
      sym (c.earlier-earliest.ensures ∙ ap (earlier c.tasks.earliest) c.release_in.ensures) in
      subst (λ (o : Option ℤ). GoesThrough st h at c.make_scan-made.new.plc (k + 1) o) earliest
      (through_more st h at c.tasks.plc c.make_scan-made.new.plc c.make_scan-made.result k c.tasks.earliest less through is
      (sym c.is_out_of_turn.ensures ∙ c.if-not-is_out_of_turn.false));
}

pub returns-clause-takes : goal.returns-clause-takes
returns-clause-takes c = λ h stands.
    let st : Steered = steered_in c.args.plc.now in
    let fits : SFits w64 c.args.raw = search rules in
    let at : ℤ = to_z w64 (of_z w64 c.args.raw) in
    let all : length st.plant.tasks ≤ c.tasks.number =
    subst (λ (ts : List Task). length ts ≤ c.tasks.number)
    (c.tasks-tasks.ensures.value ∙ ap (λ (p : PlantData). p.tasks) (c.plant.ensures ∙ c.resource.ensures.plant ∙ ap plant_of c.debugger.ensures)) c.tasks-test.false in
    subst (λ (r : ℤ). TakesTurn st h r (NoTurn c.tasks.earliest) c.tasks.plc) (to_z-of_z fits)
    (through_all st h at c.tasks.plc c.tasks.number c.tasks.earliest all (c.tasks.invariant.through h stands))
