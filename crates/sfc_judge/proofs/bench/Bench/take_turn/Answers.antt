use Rattle.std.proofs.Common.{rules, ◌≡◌, ◌∙◌, ◌+◌, ◌<◌, ◌≤◌, refl, sym, ap, subst, ℕ, ℤ, List, length, Option, w64, SFits, to_z, of_z, to_z-of_z}
use Rattle.sfc_plant.specs.Plants.{PlantData}
use Rattle.sfc_plant.specs.declared.task.Task.{Task}
use Rattle.sfc_replay.specs.sfc_debug.Steered.{Steered}
use Rattle.sfc_replay.specs.sfc_output.Output.{debugger_of}
use Rattle.sfc_session.specs.Scanning.{earlier, release_in}
use Rattle.sfc_judge.specs.declared.bench.Bench.{Bench}
use Rattle.sfc_judge.specs.declared.turn.Turn.TheVariants.{Taken, NoTurn}
use Rattle.sfc_judge.specs.Running.Benches.{IsGiven, Stands, TakesTurn, scan_of, steered_in}
use Rattle.sfc_judge.proofs.Trying.{GoesThrough, through_all, through_here, through_more}
use Rattle.sfc_judge.proofs.bench.Bench.take_turn.Goals as goal

pub returns-then-not-is_out_of_turn-clause-takes : goal.returns-then-not-is_out_of_turn-clause-takes
unfolding Stands steered_in
returns-then-not-is_out_of_turn-clause-takes c = λ m stands.
    let st : Steered = steered_in c.args.self.now in
    let fits : SFits w64 c.args.raw = search rules in
    let at : ℤ = to_z w64 (of_z w64 c.args.raw) in
    let k : ℕ = c.tasks.number in
    let through = c.tasks.invariant.through m stands in
    let same = c.tasks.invariant.steered in
    let less : k < length st.plant.tasks =
    subst (λ (ts : List Task). k < length ts)
    (c.tasks-tasks.ensures.value ∙ ap (λ (p : PlantData). p.tasks) (c.plant.ensures ∙ c.resource.ensures.plant)) c.tasks-test.true in
    let is : IsGiven st m (scan_of k at) c.attempt-given.result =
    subst (λ (s : Steered). IsGiven s m (scan_of k at) c.attempt-given.result) same (c.attempt-given.ensures.given m through.stands) in
    let after : Stands c.attempt-given.new.self (record { history = (debugger_of st).after m.history (scan_of k at); clock = m.clock; stimuli = m.stimuli }) =
    subst (λ (s : Steered). Stands c.attempt-given.new.self (record { history = (debugger_of s).after m.history (scan_of k at); clock = m.clock; stimuli = m.stimuli })) same
    (c.attempt-given.ensures.stands m through.stands) in
    let new : Bench = record {
      debugger = c.attempt-given.new.self.debugger;
      opening = c.attempt-given.new.self.opening;
      clock = at;
      last = c.attempt-given.new.self.last;
      told = c.attempt-given.new.self.told;
      stimuli = c.attempt-given.new.self.stimuli;
      trail = c.attempt-given.new.self.trail;
    } in
    subst (λ (r : ℤ). TakesTurn st m r (Taken c.attempt-given.result) new) (to_z-of_z fits)
    (through_here st m at c.tasks.self new c.attempt-given.result k c.tasks.earliest less through is
    (sym c.is_out_of_turn.ensures ∙ c.if-not-is_out_of_turn.true)
    (record { agrees = after.agrees; clock = refl; last = after.last; count = after.count; told = after.told; stimuli = after.stimuli }))

pub tasks-preserved : goal.tasks-preserved
unfolding steered_in
tasks-preserved c = record {
  ready = λ r. c.attempt-given.ensures.ready (c.tasks.invariant.ready r);
  steered = c.attempt-given.ensures.steered ∙ c.tasks.invariant.steered;
  through = λ m stands.
      let st : Steered = steered_in c.args.self.now in
      let at : ℤ = to_z w64 (of_z w64 c.args.raw) in
      let k : ℕ = c.tasks.number in
      let through = c.tasks.invariant.through m stands in
      let same = c.tasks.invariant.steered in
      let less : k < length st.plant.tasks =
      subst (λ (ts : List Task). k < length ts)
      (c.tasks-tasks.ensures.value ∙ ap (λ (p : PlantData). p.tasks) (c.plant.ensures ∙ c.resource.ensures.plant)) c.tasks-test.true in
      let is : IsGiven st m (scan_of k at) c.attempt-given.result =
      subst (λ (s : Steered). IsGiven s m (scan_of k at) c.attempt-given.result) same (c.attempt-given.ensures.given m through.stands) in
      let after : Stands c.attempt-given.new.self (record { history = (debugger_of st).after m.history (scan_of k at); clock = m.clock; stimuli = m.stimuli }) =
      subst (λ (s : Steered). Stands c.attempt-given.new.self (record { history = (debugger_of s).after m.history (scan_of k at); clock = m.clock; stimuli = m.stimuli })) same
      (c.attempt-given.ensures.stands m through.stands) in
      let earliest : earlier c.tasks.earliest (release_in c.attempt-given.result.answer) ≡ c.earlier-earliest.result =
      sym (c.earlier-earliest.ensures ∙ ap (earlier c.tasks.earliest) c.release_in.ensures) in
      subst (λ (o : Option ℤ). GoesThrough st m at c.attempt-given.new.self (k + 1) o) earliest
      (through_more st m at c.tasks.self c.attempt-given.new.self c.attempt-given.result k c.tasks.earliest less through is
      (sym c.is_out_of_turn.ensures ∙ c.if-not-is_out_of_turn.false) after);
}

pub returns-clause-takes : goal.returns-clause-takes
unfolding steered_in
returns-clause-takes c = λ m stands.
    let st : Steered = steered_in c.args.self.now in
    let fits : SFits w64 c.args.raw = search rules in
    let at : ℤ = to_z w64 (of_z w64 c.args.raw) in
    let all : length st.plant.tasks ≤ c.tasks.number =
    subst (λ (ts : List Task). length ts ≤ c.tasks.number)
    (c.tasks-tasks.ensures.value ∙ ap (λ (p : PlantData). p.tasks) (c.plant.ensures ∙ c.resource.ensures.plant)) c.tasks-test.false in
    subst (λ (r : ℤ). TakesTurn st m r (NoTurn c.tasks.earliest) c.tasks.self) (to_z-of_z fits)
    (through_all st m at c.tasks.self c.tasks.number c.tasks.earliest all (c.tasks.invariant.through m stands))
