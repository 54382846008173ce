use Rattle.std.proofs.Common.{rules, ◌≡◌, refl, sym, ap, subst, ℕ, ℤ, Option, w64, SFits, to_z, of_z, to_z-of_z}
use Rattle.sfc_replay.specs.sfc_debug.Histories.{TimedCommand}
use Rattle.sfc_replay.specs.sfc_debug.Steered.{Steered}
use Rattle.sfc_replay.specs.sfc_output.Output.{debugger_of}
use Rattle.sfc_session.specs.Scanning.{scan_at, turn_scan}
use Rattle.sfc_judge.specs.declared.bench.Bench.{Bench}
use Rattle.sfc_judge.specs.declared.turn.Turn.{Turn}
use Rattle.sfc_judge.specs.declared.turn.Turn.TheVariants.{NoTurn}
use Rattle.sfc_judge.specs.Moments.{Moment, behind_command}
use Rattle.sfc_judge.specs.Running.Benches.{GivesAt, IsGiven, Stands, TakesTurn, scan_of, steered_in}
use Rattle.sfc_judge.proofs.bench.Bench.scan_at.Goals as goal

pub returns-in-NoTurn-clause-gives : goal.returns-in-NoTurn-clause-gives
unfolding Stands steered_in
returns-in-NoTurn-clause-gives c = λ m stands.
    let st : Steered = steered_in c.args.self.now in
    let fits : SFits w64 c.args.raw = search rules in
    let at : ℤ = to_z w64 (of_z w64 c.args.raw) in
    let old : Bench = c.take_turn.new.self in
    let tries : TakesTurn st m at (NoTurn c.in-NoTurn.field-0) old =
    subst (λ (t : Turn). TakesTurn st m at t old) c.in-NoTurn.is (c.take_turn.ensures.takes m stands) in
    let same = c.take_turn.ensures.steered in
    let then_ : Moment = record { history = m.history; clock = at; stimuli = m.stimuli } in
    let bench : Bench = record { debugger = old.debugger; opening = old.opening; clock = at; last = old.last; told = old.told; stimuli = old.stimuli; trail = old.trail } in
    let before = tries.2 in
    let here : Stands bench then_ = record { agrees = before.agrees; clock = refl; last = before.last; count = before.count; told = before.told; stimuli = before.stimuli } in
    let timed : TimedCommand = scan_of 0 at in
    let is : IsGiven st then_ timed c.attempt.result = subst (λ (s : Steered). IsGiven s then_ timed c.attempt.result) same (c.attempt.ensures.given then_ here) in
    let after : Stands c.attempt.new.self (behind_command st m timed) =
    subst (λ (s : Steered). Stands c.attempt.new.self (record { history = (debugger_of s).after m.history timed; clock = at; stimuli = m.stimuli })) same
    (c.attempt.ensures.stands then_ here) in
    let scan : timed ≡ scan_at st m.history at = ap (λ (o : Option ℕ). turn_scan o at) (sym tries.0) in
    subst (λ (r : ℤ). GivesAt st m (scan_at st m.history r) c.attempt.result c.attempt.new.self) (to_z-of_z fits)
    (subst (λ (t : TimedCommand). GivesAt st m t c.attempt.result c.attempt.new.self) scan
    (record { command = is.command; answer = is.answer; told = is.told }, after))
