-- Tasks that are tried one after the other at a raw instant.
use Rattle.std.proofs.Common.{◌≡◌, ◌∙◌, refl, sym, ap, subst, true, false, ℕ, ◌+◌, ◌<◌, ◌≤◌, ◌∷◌, length, Option, None, ℤ, Ok, Err}
use Rattle.std.specs.Result.{is_ok}
use Rattle.sfc_replay.specs.sfc_debug.Histories.{CommandHistory, TimedCommand}
use Rattle.sfc_replay.specs.sfc_debug.Steered.{Steered}
use Rattle.sfc_replay.specs.sfc_debug.Verdict.{history_by}
use Rattle.sfc_replay.specs.sfc_output.Output.{Verdict, debugger_of}
use Rattle.sfc_session.specs.Scanning.{earlier, is_out_of_turn, next_among, release_in, scan_verdict, tasks_of, turn_among}
use Rattle.sfc_session.proofs.Turns.{begins, from, next_later, next_none, turn_here, turn_later, turn_none}
use Rattle.sfc_judge.specs.declared.bench.Bench.{Bench}
use Rattle.sfc_judge.specs.declared.given.Given.{Given}
use Rattle.sfc_judge.specs.declared.turn.Turn.TheVariants.{Taken, NoTurn}
use Rattle.sfc_judge.specs.Moments.{Moment, behind_command}
use Rattle.sfc_judge.specs.Running.Benches.{IsGiven, Stands, TakesTurn, scan_of}

-- what was refused leaves nothing
refused : (v : Verdict) (timed : TimedCommand) (h : CommandHistory) → is_out_of_turn v ≡ true → history_by v timed h ≡ h
refused (Ok answer) timed h out = let e : false ≡ true = out in absurd (cc)
refused (Err refusal) timed h out = refl

-- what was accepted is the newest
pub accepted : (v : Verdict) (timed : TimedCommand) (h : CommandHistory) → is_ok v ≡ true → history_by v timed h ≡ timed ∷ h
accepted (Ok answer) timed h ok = refl
accepted (Err refusal) timed h ok = let e : false ≡ true = ok in absurd (cc)

-- the tasks below a number were tried, and it is the turn of none of them
pub record GoesThrough (st : Steered) (m : Moment) (raw : ℤ) (new : Bench) (number : ℕ) (earliest : Option ℤ) : Type 0 where
  pub stands : Stands new m
  pub turn : turn_among st m.history raw (tasks_of st) ≡ turn_among st m.history raw (from st m.history raw number)
  pub next : next_among st m.history raw None (tasks_of st) ≡ next_among st m.history raw earliest (from st m.history raw number)

module _ (st : Steered) (m : Moment) (raw : ℤ) where
  pub through_none : (bench : Bench) → Stands bench m → GoesThrough st m raw bench 0 None
  through_none bench stands =
      let none = sym (begins st m.history raw) in
      record {
        stands = stands;
        turn = ap (turn_among st m.history raw) none;
        next = ap (next_among st m.history raw None) none;
      }

  module _ (old new : Bench) (given : Given) (number : ℕ) (earliest : Option ℤ) (less : number < length st.plant.tasks)
      (through : GoesThrough st m raw old number earliest) (is : IsGiven st m (scan_of number raw) given) where
    -- it isn't this task's turn either
    pub through_more : is_out_of_turn given.answer ≡ true
        → Stands new (record { history = (debugger_of st).after m.history (scan_of number raw); clock = m.clock; stimuli = m.stimuli })
        → GoesThrough st m raw new (number + 1) (earlier earliest (release_in given.answer))
    through_more out stands =
        let no : is_out_of_turn (scan_verdict st m.history raw number) ≡ true = sym (ap is_out_of_turn is.answer) ∙ out in
        record {
          stands = subst (λ (h : CommandHistory). Stands new (record { history = h; clock = m.clock; stimuli = m.stimuli }))
              (refused (scan_verdict st m.history raw number) (scan_of number raw) m.history no) stands;
          turn = through.turn ∙ turn_later st m.history raw number less no;
          next = through.next ∙ next_later st m.history raw earliest number less
              ∙ ap (λ (v : Verdict). next_among st m.history raw (earlier earliest (release_in v)) (from st m.history raw (number + 1))) (sym is.answer);
        }

    -- it is
    pub through_here : is_out_of_turn given.answer ≡ false → Stands new (behind_command st m (scan_of number raw))
        → TakesTurn st m raw (Taken given) new
    through_here turn stands = (
      number,
      through.turn ∙ turn_here st m.history raw number less (sym (ap is_out_of_turn is.answer) ∙ turn),
      (is, stands),
    )

  -- it is nobody's
  pub through_all : (bench : Bench) (number : ℕ) (earliest : Option ℤ) → length st.plant.tasks ≤ number
      → GoesThrough st m raw bench number earliest → TakesTurn st m raw (NoTurn earliest) bench
  through_all bench number earliest all through = (
    through.turn ∙ turn_none st m.history raw number all,
    through.next ∙ next_none st m.history raw earliest number all,
    through.stands,
  )
