use Rattle.std.proofs.Common.{rules, ◌≡◌, ◌∙◌, ◌<◌, ◌∷◌, sym, ap, subst, ℤ, true, length, Some, w64, SFits, to_z, of_z, to_z-of_z}
use Rattle.std.specs.Prelude.{slice_get}
use Rattle.std.specs.Result.{is_ok}
use Rattle.sfc_base.specs.declared.ids.TaskId.{TaskId}
use Rattle.sfc_replay.specs.sfc_debug.Agreement.{Agrees}
use Rattle.sfc_replay.specs.sfc_debug.Histories.{CommandHistory, TimedCommand}
use Rattle.sfc_replay.specs.sfc_debug.Steered.{Steered}
use Rattle.sfc_replay.specs.sfc_debug.Verdict.{history_by}
use Rattle.sfc_replay.specs.sfc_output.Output.{Verdict, debugger_of}
use Rattle.sfc_judge.specs.Holding.{told_overruns}
use Rattle.sfc_judge.specs.Running.Benches.{Accepted, Stands, steered_in}
use Rattle.sfc_judge.proofs.Trying.{accepted}
use Rattle.sfc_judge.proofs.bench.Bench.attempt.Goals as goal

pub returns-then-is_ok-clause-stands : goal.returns-then-is_ok-clause-stands
unfolding Accepted Stands steered_in
returns-then-is_ok-clause-stands c = λ m stands.
    let st : Steered = steered_in c.args.self.now in
    let fits : SFits w64 c.args.raw = search rules in
    let at : ℤ = to_z w64 (of_z w64 c.args.raw) in
    let timed : TimedCommand = (c.args.command, at) in
    let v : Verdict = (debugger_of st).verdict m.history timed in
    let ok : is_ok v ≡ true =
    ap (λ r. is_ok r) (sym (c.obey-answer.ensures.answer m.history stands.agrees)) ∙ sym c.is_ok.ensures.value ∙ c.if-is_ok.true in
    let more : history_by v timed m.history ≡ timed ∷ m.history = accepted v timed m.history ok in
    let after : Agrees c.obey-answer.new.self (timed ∷ m.history) =
    subst (λ (h : CommandHistory). Agrees c.obey-answer.new.self h) more (c.obey-answer.ensures.agrees m.history stands.agrees) in
    let same = c.obey-answer.ensures.steered in
    subst (λ (r : ℤ). Stands c.keep.new.self (record {
      history = history_by ((debugger_of st).verdict m.history (c.args.command, r))
          (c.args.command, r) m.history;
      clock = m.clock;
      stimuli = m.stimuli;
    })) (to_z-of_z fits)
    (subst (λ (h : CommandHistory). Stands c.keep.new.self (record { history = h; clock = m.clock; stimuli = m.stimuli })) (sym more)
    (c.keep.ensures.stands m (record {
      agrees = after;
      clock = stands.clock;
      count = stands.count ∙ sym (ap (λ (s : Steered). length s.plant.tasks) same);
      told = subst (λ (s : Steered). (task : TaskId) → task.0 < length s.plant.tasks →
          slice_get c.args.self.now.told.items task.0 ≡ Some (told_overruns s m.history task)) (sym same) stands.told;
      stimuli = stands.stimuli;
    })))
