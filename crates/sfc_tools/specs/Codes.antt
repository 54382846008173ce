-- Why there is no text, and the numbers that stand for it (our choice).
use Rattle.std.specs.Prelude.{ℤ, pos, negsuc}
use Rattle.sfc_drawing.specs.declared.drawing_error.DrawingError.{DrawingError}
use Rattle.sfc_drawing.specs.declared.drawing_error.DrawingError.TheVariants as drawing
use Rattle.sfc_events.specs.LoadErrors as loading
use Rattle.sfc_events.specs.ReadErrors as reading
use Rattle.sfc_replay.specs.declared.replay_error.ChartError.TheVariants as chart
use Rattle.sfc_replay.specs.declared.replay_error.ReplayError.{ReplayError}
use Rattle.sfc_replay.specs.declared.replay_error.ReplayError.TheVariants as replay
use Rattle.sfc_svg.specs.declared.svg_error.SvgError.{SvgError}
use Rattle.sfc_svg.specs.declared.svg_error.SvgError.TheVariants as svg
use Rattle.sfc_wave.specs.declared.wave_error.WaveError.{WaveError}
use Rattle.sfc_wave.specs.declared.wave_error.WaveError.TheVariants as wave
use Rattle.sfc_tools.specs.declared.tool_error.ToolError.{ToolError}
use Rattle.sfc_tools.specs.declared.tool_error.ToolError.TheVariants.{Replay, TooLarge}

-- memory was refused
abbrev pub no_memory : ToolError
no_memory = Replay replay.Memory

-- what an error of a replay is, where the texts lie in memory
abbrev pub of_replay : ReplayError → ToolError
of_replay (replay.Chart error) = Replay (replay.Chart error)
of_replay (replay.Script line) = Replay (replay.Script line)
of_replay replay.Read = no_memory
of_replay replay.Write = no_memory
of_replay replay.Memory = no_memory

-- of a drawing of all program types, or of all program instances
abbrev pub of_svg : SvgError → ToolError
of_svg svg.NoSuchType = TooLarge
of_svg svg.TooLarge = TooLarge
of_svg (svg.Replay error) = of_replay error

abbrev pub of_drawing : DrawingError → ToolError
of_drawing (drawing.Layout error) = TooLarge
of_drawing drawing.OutOfMemory = no_memory

-- of a waveform of all signals
abbrev pub of_wave : WaveError → ToolError
of_wave (wave.NoSuchSignal place) = no_memory
of_wave wave.TooLong = TooLarge
of_wave (wave.Replay error) = no_memory

-- the number of a chart's fault, or a code below 0
abbrev pub code_of : ToolError → ℤ
code_of TooLarge = negsuc 6
code_of (Replay (replay.Chart (chart.Read error))) = pos (reading.number_of error.kind)
code_of (Replay (replay.Chart (chart.Load error))) = pos (loading.number_of error)
code_of (Replay (replay.Script line)) = negsuc 4
code_of (Replay replay.Read) = negsuc 3
code_of (Replay replay.Write) = negsuc 3
code_of (Replay replay.Memory) = negsuc 3
