use Rattle.std.proofs.Common.{rules, ◌≡◌, ◌∙◌, ap, subst, ℤ, w64, SFits, to_z, of_z, to_z-of_z}
use Rattle.std.specs.Prelude.{slice_set}
use Rattle.sfc_events.specs.declared.command.Command.{Command}
use Rattle.sfc_replay.specs.sfc_debug.Steered.{Steered}
use Rattle.sfc_replay.specs.sfc_output.Output.{debugger_of}
use Rattle.sfc_judge.specs.declared.bench.Bench.{Bench}
use Rattle.sfc_judge.specs.declared.due.Due.{Due}
use Rattle.sfc_judge.specs.Moments.{Moment}
use Rattle.sfc_judge.specs.Running.Benches.{IsGiven, Stands, steered_in}
use Rattle.sfc_cases.specs.Stimuli.{behind_one}
use Rattle.sfc_judge.specs.Dues.{later}
use Rattle.sfc_judge.proofs.bench.Bench.stir.Goals as goal

pub returns-clause-gives : goal.returns-clause-gives
unfolding Stands steered_in
returns-clause-gives c = λ m stands.
    let st : Steered = steered_in c.args.self.now in
    let due : Due = c.args.due in
    let command : Command = due.stimulus.command in
    let fits : SFits w64 c.later-self.result = search rules in
    let fits_clock : SFits w64 c.args.self.now.clock = search rules in
    let fits_instant : SFits w64 due.instant = search rules in
    let at : ℤ = later m.clock due.instant in
    let clock : to_z w64 (of_z w64 c.later-self.result) ≡ at =
    to_z-of_z fits ∙ c.later-self.ensures ∙ ap (λ t. later t (to_z w64 (of_z w64 due.instant))) (to_z-of_z fits_clock ∙ stands.clock)
    ∙ ap (λ t. later m.clock t) (to_z-of_z fits_instant) in
    let then_ : Moment = record { history = m.history; clock = at; stimuli = m.stimuli } in
    let moved : Moment = record { history = m.history; clock = at; stimuli = slice_set m.stimuli due.place (behind_one due.instant due.stimulus) } in
    let new : Bench = c.advance.new.self in
    let after : Stands new moved =
    c.advance.ensures.stands then_ (record {
      agrees = stands.agrees;
      clock = clock;
      last = stands.last;
      count = stands.count;
      told = stands.told;
      stimuli = stands.stimuli;
    }) in
    let fits_new : SFits w64 new.clock = search rules in
    let raw : to_z w64 (of_z w64 new.clock) ≡ at = to_z-of_z fits_new ∙ after.clock in
    let same = c.advance.ensures.steered in
    let is : IsGiven st moved (command, at) c.attempt-given.result =
    subst (λ (t : ℤ). IsGiven st moved (command, t) c.attempt-given.result) raw
    (subst (λ (s : Steered). IsGiven s moved (command, to_z w64 (of_z w64 new.clock)) c.attempt-given.result) same (c.attempt-given.ensures.given moved after)) in
    let stood : Stands c.attempt-given.new.self (record { history = (debugger_of st).after m.history (command, at); clock = at; stimuli = moved.stimuli }) =
    subst (λ (t : ℤ). Stands c.attempt-given.new.self (record { history = (debugger_of st).after m.history (command, t); clock = at; stimuli = moved.stimuli })) raw
    (subst (λ (s : Steered). Stands c.attempt-given.new.self (record {
      history = (debugger_of s).after m.history (command, to_z w64 (of_z w64 new.clock));
      clock = at;
      stimuli = moved.stimuli;
    })) same (c.attempt-given.ensures.stands moved after)) in
    (record { command = is.command; answer = is.answer; told = is.told }, stood)
