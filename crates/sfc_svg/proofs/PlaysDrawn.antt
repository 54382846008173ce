-- Where debugger_after and draw_after end.
use Rattle.std.specs.Prelude.{⊤}
use Rattle.std.proofs.Common.{◌≡◌, ℕ, List, [], Option, Result, Ok, Err, ap, sym, subst, inl, inr}
use Rattle.sfc_events.specs.History.{History}
use Rattle.sfc_replay.specs.sfc_debug.declared.break_condition.BreakCondition.{BreakCondition}
use Rattle.sfc_replay.specs.sfc_debug.declared.debugger.Debugger.{Debugger}
use Rattle.sfc_replay.specs.sfc_core.PlantState as core
use Rattle.sfc_replay.specs.sfc_debug.Agreement.{Agrees, plant_of, table_of}
use Rattle.sfc_replay.specs.sfc_debug.Histories.{CommandHistory}
use Rattle.sfc_replay.specs.sfc_debug.States.{erasure}
use Rattle.sfc_replay.specs.sfc_debug.Steered.{Steered, steered_by}
use Rattle.sfc_replay.specs.sfc_instances.PlantState.{PlantState}
use Rattle.sfc_replay.specs.sfc_load.Accepted.{IsAccepted}
use Rattle.sfc_replay.specs.sfc_output.Output.{debugger_of, plant_state, session_after}
use Rattle.sfc_plant.specs.Plants.{PlantData}
use Rattle.sfc_replay.specs.sfc_script.Scripts.{ScriptData, ScriptReads}
use Rattle.sfc_replay.specs.declared.opening.Opened.{Opened}
use Rattle.sfc_replay.specs.declared.replay_error.ReplayError.{ReplayError}
use Rattle.sfc_replay.specs.declared.replay_error.ReplayError.TheVariants as replay
use Rattle.sfc_replay.specs.Opening.{IsOpened, OpensFrom, said_by}
use Rattle.sfc_replay.specs.Reading.{Device, IsUntouched}
use Rattle.sfc_replay.specs.Replay.{played_on}
use Rattle.sfc_svg.specs.declared.svg_error.SvgError.{SvgError}
use Rattle.sfc_svg.specs.declared.svg_error.SvgError.TheVariants as svg
use Rattle.sfc_svg.specs.Played.{DrawsAfter, IsPlayed, OfPlay, PlaysFrom, state_after}
use Rattle.sfc_svg.specs.Standing.{IsDrawingAt}
use Rattle.sfc_svg.specs.Written.{IsPut}

module _ (chart script : Device) where
  -- the chart or the script isn't opened
  pub unopened : (error : ReplayError) → OpensFrom chart script (Err error) → PlaysFrom chart script (Err error)
  unopened (replay.Chart e) h = h
  unopened (replay.Script n) h = h
  unopened replay.Read h = h
  unopened replay.Write h = h
  unopened replay.Memory h = h

  is_played : (text commands : List ℕ) (opened : Opened) (debugger : Debugger) → IsOpened text commands opened
      → steered_by debugger ≡ steered_by opened.debugger
      → Agrees debugger (session_after (debugger_of (steered_by opened.debugger)) [] opened.commands.items) → IsPlayed text commands debugger
  is_played text commands opened debugger h same agrees = record {
    loaded = subst (λ (s : Steered). IsAccepted text s.plant) (sym same) h.loaded;
    said = said_by opened;
    parsed = subst (λ (s : Steered). ScriptReads s.plant commands (Ok (said_by opened))) (sym same) h.parsed;
    table = ap (λ (s : Steered). s.table) same;
    given = subst (λ (s : Steered). Agrees debugger (session_after (debugger_of s) [] opened.commands.items)) (sym same) agrees;
  }

  -- the script was played
  pub played : (opened : Opened) (debugger : Debugger) → OpensFrom chart script (Ok opened)
      → steered_by debugger ≡ steered_by opened.debugger
      → ((h : CommandHistory) → Agrees opened.debugger h
      → Agrees debugger (session_after (debugger_of (steered_by opened.debugger)) h opened.commands.items))
      → PlaysFrom chart script (Ok debugger)
  played opened debugger opens same agrees = (
    opens.0,
    opens.1,
    (opens.2.0, opens.2.1, is_played opens.0 opens.2.0 opened debugger opens.2.2 same (agrees [] opens.2.2.untold)),
  )

-- ---- a debugger that was given a script

module _ (chart script : Device) (debugger : Debugger) (plays : PlaysFrom chart script (Ok debugger)) where
  abbrev pub is_played_so : IsPlayed plays.0 plays.2.0 debugger
  is_played_so = plays.2.2

  -- the commands that it has accepted
  abbrev pub history : CommandHistory
  history = session_after (debugger_of (steered_by debugger)) [] is_played_so.said.commands

  pub agrees_so : Agrees debugger history
  agrees_so = is_played_so.given

  -- what its resource was told
  abbrev pub told : History
  told = erasure (plant_of debugger) (table_of debugger) history

-- a plant with this table of conditions
abbrev with_table : PlantData → List BreakCondition → Steered
with_table plant table = record { plant = plant; table = table }

-- ---- the drawing behind it

module _ (name : Option (List ℕ)) (chart script w : Device) where
  -- there is no debugger
  pub unplayed : (error : ReplayError) → PlaysFrom chart script (Err error) → IsUntouched w
      → DrawsAfter name chart script w {X = Unit {0}} (Err (svg.Replay error))
  unplayed (replay.Chart e) h untouched = (h.0, h.1, untouched)
  unplayed (replay.Script n) h untouched = (h, untouched)
  unplayed replay.Read h untouched = (h, untouched)
  unplayed replay.Write h untouched = absurd h
  unplayed replay.Memory h untouched = (inl h, untouched)

  module _ (debugger : Debugger) (plays : PlaysFrom chart script (Ok debugger)) where
    abbrev so : IsPlayed plays.0 plays.2.0 debugger
    so = plays.2.2

    abbrev plant : PlantData
    plant = plant_of debugger

    abbrev said : ScriptData
    said = so.said

    same_steered : steered_by debugger ≡ played_on plant said
    same_steered = ap (with_table plant) so.table

    same_state : core.state_of plant (told chart script debugger plays) ≡ state_after plant said
    same_state =
        ap (λ (s : Steered). plant_state s ((debugger_of s).state (session_after (debugger_of s) [] so.said.commands))) same_steered

    left : (P : PlantData → PlantState → Type 0) → P plant (core.state_of plant (told chart script debugger plays)) → OfPlay chart script P
    left P holds = (
      plays.0,
      plays.1,
      (
        plays.2.0,
        plays.2.1,
        record {
          plant = plant;
          loaded = so.loaded;
          said = said;
          parsed = so.parsed;
          holds = subst (λ (s : PlantState). P plant s) same_state holds;
        },
      ),
    )

    -- what was put is told of the drawing behind the script
    put_so : (result : Result (Unit {0}) SvgError)
        → IsPut plant name (IsDrawingAt plant (core.state_of plant (told chart script debugger plays)) name) w result
        → DrawsAfter name chart script w result
    put_so (Ok done) h = left (λ p s. IsPut p name (IsDrawingAt p s name) w {X = Unit {0}} (Ok done)) h
    put_so (Err svg.NoSuchType) h = left (λ p s. IsPut p name (IsDrawingAt p s name) w {X = Unit {0}} (Err svg.NoSuchType)) h
    put_so (Err svg.TooLarge) h = left (λ p s. IsPut p name (IsDrawingAt p s name) w {X = Unit {0}} (Err svg.TooLarge)) h
    put_so (Err (svg.Replay (replay.Chart e))) h = absurd h
    put_so (Err (svg.Replay (replay.Script n))) h = absurd h
    put_so (Err (svg.Replay replay.Read)) h = absurd h
    put_so (Err (svg.Replay replay.Write)) h =
        left (λ p s. IsPut p name (IsDrawingAt p s name) w {X = Unit {0}} (Err (svg.Replay replay.Write))) h
    put_so (Err (svg.Replay replay.Memory)) h = (inr (left (λ p s. ⊤) tt), h)

    -- the same, of a plant that is the debugger's
    pub drawn : (other : PlantData) → other ≡ plant_of debugger → (result : Result (Unit {0}) SvgError)
        → IsPut other name (IsDrawingAt other (core.state_of other (told chart script debugger plays)) name) w result
        → DrawsAfter name chart script w result
    drawn other e result h =
        put_so result (subst (λ (p : PlantData).
        IsPut p name (IsDrawingAt p (core.state_of p (told chart script debugger plays)) name) w result) e h)
