-- Where opening ends.
use Rattle.std.proofs.Common.{◌≡◌, ℕ, List, Result, Ok, Err, sym, subst, inl, inr}
use Rattle.sfc_output.specs.sfc_debug.Steered.{steered_by}
use Rattle.sfc_script.specs.sfc_load.Accepted.{IsAccepted}
use Rattle.sfc_plant.specs.Plants.{PlantData}
use Rattle.sfc_script.specs.declared.script.ScriptError.{ScriptError}
use Rattle.sfc_script.specs.declared.script.ScriptError.TheVariants as script_error
use Rattle.sfc_script.specs.Answers.{ReadsScript}
use Rattle.sfc_script.specs.Scripts.{ScriptReads}
use Rattle.sfc_replay.specs.declared.opening.Opened.{Opened}
use Rattle.sfc_replay.specs.declared.replay_error.ReplayError.{ReplayError}
use Rattle.sfc_replay.specs.declared.replay_error.ReplayError.TheVariants.{Chart, Script, Read, Write, Memory}
use Rattle.sfc_replay.specs.Acceptance.{Accepts, most}
use Rattle.sfc_replay.specs.Opening.{IsOpened, Opens, OpensFrom, said_by}
use Rattle.sfc_replay.specs.Reading.{Device, IsUntouched, TakesAtMost, LosesAtMost}
use Rattle.sfc_replay.specs.ReplayErrors.{of_script}
use Rattle.sfc_replay.specs.Working.Faults.{IsInputFault}
use Rattle.sfc_replay.specs.Working.Opening.{IsOpenedOn, OpensOn}
use Rattle.sfc_replay.proofs.Taken.{lost}

-- a script over a plant is refused
pub script_refused : (plant : PlantData) (script : List ℕ) (error : ScriptError) → ReadsScript plant script (Err error)
    → OpensOn plant script (Err (of_script error))
script_refused plant script (script_error.Faulty n) said = said
script_refused plant script script_error.Memory said = tt

-- a chart is refused
pub chart_refused : (text script : List ℕ) (error : ReplayError) → Accepts text (Err error) → Opens text script (Err error)
chart_refused text script (Chart e) h = h
chart_refused text script (Script n) h = absurd h
chart_refused text script Read h = absurd h
chart_refused text script Write h = absurd h
chart_refused text script Memory h = tt

module _ (text : List ℕ) (plant : PlantData) (loaded : IsAccepted text plant) (script : List ℕ) where
  opened_so : (opened : Opened) → IsOpenedOn plant script opened → IsOpened text script opened
  opened_so opened h = record {
    loaded = subst (λ (p : PlantData). IsAccepted text p) (sym h.plant_same) loaded;
    parsed = subst (λ (p : PlantData). ScriptReads p script (Ok (said_by opened))) (sym h.plant_same) h.parsed;
    untold = h.untold;
  }

  -- the chart is a plant, and the script was opened over it
  pub opened_on : (result : Result Opened ReplayError) → OpensOn plant script result → Opens text script result
  opened_on (Ok opened) h = opened_so opened h
  opened_on (Err (Chart e)) h = absurd h
  opened_on (Err (Script n)) h = record { plant = plant; loaded = loaded; parsed = h }
  opened_on (Err Read) h = absurd h
  opened_on (Err Write) h = absurd h
  opened_on (Err Memory) h = tt

module _ (chart script : Device) where
  -- the chart wasn't taken whole
  pub chart_unread : (error : ReplayError) → IsInputFault error → LosesAtMost most chart → IsUntouched script
      → OpensFrom chart script (Err error)
  chart_unread (Chart e) h lost untouched = absurd h
  chart_unread (Script n) h lost untouched = absurd h
  chart_unread Read h lost untouched = inl (lost, untouched)
  chart_unread Write h lost untouched = absurd h
  chart_unread Memory h lost untouched = inl (lost, untouched)

  -- the chart was taken, and isn't a plant
  pub chart_stopped : (text : List ℕ) (error : ReplayError) → TakesAtMost most chart text → IsUntouched script → Accepts text (Err error)
      → OpensFrom chart script (Err error)
  chart_stopped text (Chart e) taken untouched h = ((text, taken, h), untouched)
  chart_stopped text (Script n) taken untouched h = absurd h
  chart_stopped text Read taken untouched h = absurd h
  chart_stopped text Write taken untouched h = absurd h
  chart_stopped text Memory taken untouched h = inl (lost most chart.0 chart.1 text taken, untouched)

  module _ (text : List ℕ) (plant : PlantData) (taken : TakesAtMost most chart text) (loaded : IsAccepted text plant) where
    -- the script wasn't taken whole
    pub script_unread : (error : ReplayError) → IsInputFault error → LosesAtMost most script → OpensFrom chart script (Err error)
    script_unread (Chart e) h lost = absurd h
    script_unread (Script n) h lost = absurd h
    script_unread Read h lost = inr ((text, taken, (plant, loaded)), lost)
    script_unread Write h lost = absurd h
    script_unread Memory h lost = inr ((text, taken, (plant, loaded)), lost)

    -- the script was taken, and opened over the plant
    pub both_taken : (bytes : List ℕ) → TakesAtMost most script bytes → (result : Result Opened ReplayError) → OpensOn plant bytes result
        → OpensFrom chart script result
    both_taken bytes taken' (Ok opened) h = (text, taken, (bytes, taken', opened_so text plant loaded bytes opened h))
    both_taken bytes taken' (Err (Chart e)) h = absurd h
    both_taken bytes taken' (Err (Script n)) h = (text, taken, (bytes, taken', record { plant = plant; loaded = loaded; parsed = h }))
    both_taken bytes taken' (Err Read) h = absurd h
    both_taken bytes taken' (Err Write) h = absurd h
    both_taken bytes taken' (Err Memory) h = inr ((text, taken, (plant, loaded)), lost most script.0 script.1 bytes taken')
