-- Where replay ends.
use Rattle.std.proofs.Common.{◌≡◌, ℕ, Bool, List, [], Option, Some, None, Result, Ok, Err, refl, inl, inr}
use Rattle.std.specs.Result.{IfErr, IfOk}
use Rattle.std.specs.Io.KnownBytes.{Appends, Keeps}
use Rattle.sfc_base.specs.Writing.{Writes, AppendsFront}
use Rattle.sfc_output.specs.sfc_debug.Agreement.{Agrees}
use Rattle.sfc_output.specs.sfc_debug.Steered.{Steered, steered_by}
use Rattle.sfc_output.specs.Output.{any_amiss, lines_of_play, debugger_of, text_of}
use Rattle.sfc_replay.specs.declared.opening.Opened.{Opened}
use Rattle.sfc_replay.specs.declared.replay_error.ReplayError.{ReplayError}
use Rattle.sfc_replay.specs.declared.replay_error.ReplayError.TheVariants.{Chart, Script, Read, Write, Memory}
use Rattle.sfc_replay.specs.Opening.{IsOpened, OpensFrom, said_by}
use Rattle.sfc_replay.specs.Reading.{Device, IsUntouched}
use Rattle.sfc_replay.specs.Replay.{Finds, IsOutput, Outputs, Replays}
use Rattle.sfc_replay.specs.Working.Faults.{IsOutputFault}

pub Keeps-same : (known : Option (List ℕ)) → Keeps known known
Keeps-same None = tt
Keeps-same (Some xs) = refl

module _ (chart script w : Device) where
  -- the chart or the script isn't opened
  pub stopped : (error : ReplayError) → OpensFrom chart script (Err error) → IsUntouched w → Replays chart script w {X = Bool} (Err error)
  stopped (Chart e) h unwritten = (h.0, h.1, unwritten)
  stopped (Script n) h unwritten = (h, unwritten)
  stopped Read h unwritten = (h, unwritten)
  stopped Write h unwritten = absurd h
  stopped Memory h unwritten = inl (h, unwritten)

  module _ (opened : Opened) (opens : OpensFrom chart script (Ok opened)) where
    abbrev steered : Steered
    steered = steered_by opened.debugger

    abbrev lines : List ℕ
    lines = lines_of_play (debugger_of steered) (text_of steered) [] opened.commands.items

    is_opened : IsOpened opens.0 opens.2.0 opened
    is_opened = opens.2.2

    output : IsOutput opens.0 opens.2.0 lines
    output = record {
      plant = steered.plant;
      loaded = is_opened.loaded;
      said = said_by opened;
      parsed = is_opened.parsed;
      lines = refl;
    }

    outputs : (Given : List ℕ → Type 0) → Given lines → Outputs chart script Given
    outputs Given given = (opens.0, opens.1, (opens.2.0, opens.2.1, (lines, output, given)))

    -- the commands were played, to the end or to a fault of the writer
    pub played : (result : Result Bool ReplayError) → IfErr result IsOutputFault
        → (Agrees opened.debugger [] → Writes w.0 w.1 result
        (lines_of_play (debugger_of (steered_by opened.debugger)) (text_of (steered_by opened.debugger)) [] opened.commands.items))
        → Replays chart script w result
    played (Ok x) faults writes = outputs (Appends w.0 w.1) (writes is_opened.untold)
    played (Err (Chart e)) faults writes = absurd faults
    played (Err (Script n)) faults writes = absurd faults
    played (Err Read) faults writes = absurd faults
    played (Err Write) faults writes = outputs (AppendsFront w.0 w.1) (writes is_opened.untold)
    played (Err Memory) faults writes = inr (outputs (AppendsFront w.0 w.1) (writes is_opened.untold))

    -- and whether something went amiss
    pub found : (result : Result Bool ReplayError)
        → (Agrees opened.debugger [] → IfOk result (λ amiss. amiss ≡ any_amiss (steered_by opened.debugger) [] opened.commands.items))
        → Finds chart script result
    found (Ok amiss) e = (
      opens.0,
      opens.1,
      (
        opens.2.0,
        opens.2.1,
        record {
          plant = steered.plant;
          loaded = is_opened.loaded;
          said = said_by opened;
          parsed = is_opened.parsed;
          found = e is_opened.untold;
        },
      ),
    )
    found (Err error) e = tt
