-- Why there is no text: by the errors of the crates below.
use Rattle.std.proofs.Common.{ℕ, List, Option, Some, None, Err}
use Rattle.sfc_drawing.specs.declared.drawing_error.DrawingError.{DrawingError}
use Rattle.sfc_drawing.specs.declared.drawing_error.DrawingError.TheVariants as drawing
use Rattle.sfc_replay.specs.Acceptance.{Accepts, Answers, IsRefusedFor}
use Rattle.sfc_replay.specs.Opening.{IsScriptRefused, Opens}
use Rattle.sfc_replay.specs.Reading.{Device}
use Rattle.sfc_replay.specs.Replay.{Replays}
use Rattle.sfc_replay.specs.declared.replay_error.ReplayError.{ReplayError}
use Rattle.sfc_replay.specs.declared.replay_error.ReplayError.TheVariants as replay
use Rattle.sfc_replay.specs.sfc_output.sfc_list.Listing.{listing}
use Rattle.sfc_svg.specs.Played.{DrawsAfter}
use Rattle.sfc_svg.specs.Types.{DrawsTypes}
use Rattle.sfc_svg.specs.declared.svg_error.SvgError.{SvgError}
use Rattle.sfc_svg.specs.declared.svg_error.SvgError.TheVariants as svg
use Rattle.sfc_wave.specs.declared.wave_error.WaveError.{WaveError}
use Rattle.sfc_wave.specs.declared.wave_error.WaveError.TheVariants as wave
use Rattle.sfc_tools.specs.declared.tool_error.ToolError.{ToolError}
use Rattle.sfc_tools.specs.declared.tool_error.ToolError.TheVariants.{Replay, TooLarge}
use Rattle.sfc_tools.specs.Codes.{of_drawing, of_replay, of_svg, of_wave}
use Rattle.sfc_tools.specs.Told.{IsForWant, IsUntold, IsUntoldOfBoth, OrTooLarge, read_of}
use Rattle.sfc_tools.proofs.Taken.{of_both, of_chart}

-- ---- texts that are opened as they are

pub untold : (chart : List ℕ) (error : ReplayError) → Accepts chart (Err error) → IsUntold chart (of_replay error)
untold chart (replay.Chart e) h = h
untold chart (replay.Script line) h = absurd h
untold chart replay.Read h = tt
untold chart replay.Write h = tt
untold chart replay.Memory h = tt

pub unopened : (chart script : List ℕ) (error : ReplayError) → Opens chart script (Err error) → IsUntoldOfBoth chart script (of_replay error)
unopened chart script (replay.Chart e) h = h
unopened chart script (replay.Script line) h = h
unopened chart script replay.Read h = tt
unopened chart script replay.Write h = tt
unopened chart script replay.Memory h = tt

-- what may be too large
pub or_large : (Untold : ToolError → Type 0) (error : ToolError) → Untold error → OrTooLarge Untold error
or_large Untold TooLarge h = tt
or_large Untold (Replay error) h = h

pub wanting : (chart script : List ℕ) (error : ToolError) → IsForWant error → IsUntoldOfBoth chart script error
wanting chart script TooLarge h = absurd h
wanting chart script (Replay (replay.Chart e)) h = absurd h
wanting chart script (Replay (replay.Script line)) h = absurd h
wanting chart script (Replay replay.Read) h = absurd h
wanting chart script (Replay replay.Write) h = absurd h
wanting chart script (Replay replay.Memory) h = tt

pub wanting_or_large : (chart script : List ℕ) (error : ToolError) → OrTooLarge IsForWant error → OrTooLarge (IsUntoldOfBoth chart script) error
wanting_or_large chart script TooLarge h = tt
wanting_or_large chart script (Replay error) h = wanting chart script (Replay error) h

pub unwaved : (chart script : List ℕ) (error : WaveError) → OrTooLarge (IsUntoldOfBoth chart script) (of_wave error)
unwaved chart script (wave.NoSuchSignal place) = tt
unwaved chart script wave.TooLong = tt
unwaved chart script (wave.Replay error) = tt

pub undrawn : (error : DrawingError) → OrTooLarge IsForWant (of_drawing error)
undrawn (drawing.Layout error) = tt
undrawn drawing.OutOfMemory = tt

-- ---- texts that are read

module _ (chart : List ℕ) (rest : Option (List ℕ)) (w : Device) where
  pub unlisted : (error : ReplayError) → Answers listing (Some chart, rest) w {X = Unit {0}} (Err error) → IsUntold (read_of chart) (of_replay error)
  unlisted (replay.Chart e) h = of_chart (λ text. IsRefusedFor text e) chart rest h.0
  unlisted (replay.Script line) h = absurd h
  unlisted replay.Read h = tt
  unlisted replay.Write h = tt
  unlisted replay.Memory h = tt

  pub types_undrawn : (error : SvgError) → DrawsTypes None (Some chart, rest) w {X = Unit {0}} (Err error)
      → OrTooLarge (IsUntold (read_of chart)) (of_svg error)
  types_undrawn svg.NoSuchType h = tt
  types_undrawn svg.TooLarge h = tt
  types_undrawn (svg.Replay (replay.Chart e)) h = of_chart (λ text. IsRefusedFor text e) chart rest h.0
  types_undrawn (svg.Replay (replay.Script line)) h = absurd h
  types_undrawn (svg.Replay replay.Read) h = tt
  types_undrawn (svg.Replay replay.Write) h = tt
  types_undrawn (svg.Replay replay.Memory) h = tt

  module _ (script : List ℕ) (left : Option (List ℕ)) where
    pub unplayed : (error : ReplayError) → Replays (Some chart, rest) (Some script, left) w {X = Unit {0}} (Err error)
        → IsUntoldOfBoth (read_of chart) (read_of script) (of_replay error)
    unplayed (replay.Chart e) h = of_chart (λ text. IsRefusedFor text e) chart rest h.0
    unplayed (replay.Script line) h =
        of_both (λ text commands. IsScriptRefused text commands line) chart script rest left h.0
    unplayed replay.Read h = tt
    unplayed replay.Write h = tt
    unplayed replay.Memory h = tt

    pub left_undrawn : (error : SvgError) → DrawsAfter None (Some chart, rest) (Some script, left) w {X = Unit {0}} (Err error)
        → OrTooLarge (IsUntoldOfBoth (read_of chart) (read_of script)) (of_svg error)
    left_undrawn svg.NoSuchType h = tt
    left_undrawn svg.TooLarge h = tt
    left_undrawn (svg.Replay (replay.Chart e)) h = of_chart (λ text. IsRefusedFor text e) chart rest h.0
    left_undrawn (svg.Replay (replay.Script line)) h =
        of_both (λ text commands. IsScriptRefused text commands line) chart script rest left h.0
    left_undrawn (svg.Replay replay.Read) h = tt
    left_undrawn (svg.Replay replay.Write) h = tt
    left_undrawn (svg.Replay replay.Memory) h = tt
