-- Tasks that are tried one after the other at a raw instant.
use Rattle.std.proofs.Common.{◌≡◌, ◌∙◌, refl, sym, ap, subst, true, false, ℕ, ◌+◌, ◌<◌, ◌≤◌, length, Option, None, ℤ, Ok, Err}
use Rattle.sfc_replay.specs.sfc_debug.Histories.{CommandHistory, TimedCommand}
use Rattle.sfc_replay.specs.sfc_debug.Steered.{Steered}
use Rattle.sfc_replay.specs.sfc_debug.Verdict.{history_by}
use Rattle.sfc_replay.specs.sfc_output.Output.{Verdict}
use Rattle.sfc_session.specs.Scanning.{earlier, is_out_of_turn, next_among, release_in, scan_verdict, tasks_of, turn_among}
use Rattle.sfc_session.proofs.Turns.{begins, from, next_later, next_none, turn_here, turn_later, turn_none}
use Rattle.sfc_c.specs.declared.plc.Plc.{Plc}
use Rattle.sfc_c.specs.declared.scanning.Scan.{Scan as Made}
use Rattle.sfc_c.specs.declared.scanning.Turn.TheVariants.{Taken, NoTurn}
use Rattle.sfc_c.specs.Advancing.{IsMade, TakesTurn, scan_of}
use Rattle.sfc_c.specs.Resources.{Stands}

-- what was refused leaves nothing
refused : (v : Verdict) (timed : TimedCommand) (h : CommandHistory) → is_out_of_turn v ≡ true → history_by v timed h ≡ h
refused (Ok answer) timed h out = let e : false ≡ true = out in absurd (cc)
refused (Err refusal) timed h out = refl

-- the tasks below a number were tried, and it is the turn of none of them
pub record GoesThrough (st : Steered) (h : CommandHistory) (raw : ℤ) (new : Plc) (number : ℕ) (earliest : Option ℤ) : Type 0 where
  pub stands : Stands new h
  pub turn : turn_among st h raw (tasks_of st) ≡ turn_among st h raw (from st h raw number)
  pub next : next_among st h raw None (tasks_of st) ≡ next_among st h raw earliest (from st h raw number)

module _ (st : Steered) (h : CommandHistory) (raw : ℤ) where
  pub through_none : (plc : Plc) → Stands plc h → GoesThrough st h raw plc 0 None
  through_none plc stands =
      let none = sym (begins st h raw) in
      record {
        stands = stands;
        turn = ap (turn_among st h raw) none;
        next = ap (next_among st h raw None) none;
      }

  module _ (old new : Plc) (made : Made) (number : ℕ) (earliest : Option ℤ) (less : number < length st.plant.tasks)
      (through : GoesThrough st h raw old number earliest) (is : IsMade st h (scan_of number raw) made new) where
    -- it isn't this task's turn either
    pub through_more : is_out_of_turn made.answer ≡ true → GoesThrough st h raw new (number + 1) (earlier earliest (release_in made.answer))
    through_more out =
        let no : is_out_of_turn (scan_verdict st h raw number) ≡ true = sym (ap is_out_of_turn is.1) ∙ out in
        record {
          stands = subst (λ (g : CommandHistory). Stands new g) (refused (scan_verdict st h raw number) (scan_of number raw) h no) is.2;
          turn = through.turn ∙ turn_later st h raw number less no;
          next = through.next ∙ next_later st h raw earliest number less
              ∙ ap (λ (v : Verdict). next_among st h raw (earlier earliest (release_in v)) (from st h raw (number + 1))) (sym is.1);
        }

    -- it is
    pub through_here : is_out_of_turn made.answer ≡ false → TakesTurn st h raw (Taken made) new
    through_here turn = (
      number,
      through.turn ∙ turn_here st h raw number less (sym (ap is_out_of_turn is.1) ∙ turn),
      is,
    )

  -- it is nobody's
  pub through_all : (plc : Plc) (number : ℕ) (earliest : Option ℤ) → length st.plant.tasks ≤ number
      → GoesThrough st h raw plc number earliest → TakesTurn st h raw (NoTurn earliest) plc
  through_all plc number earliest all through = (
    through.turn ∙ turn_none st h raw number all,
    through.next ∙ next_none st h raw earliest number all,
    through.stands,
  )
