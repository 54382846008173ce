-- What each fault becomes, and the exit status and the text of each (our choice).
use Rattle.std.specs.Prelude.{ℕ, List, ◌++◌, codes}
use Rattle.std.specs.Fmt.{decimal}
use Rattle.sfc_events.specs.declared.read_error.ReadError.{ReadError}
use Rattle.sfc_events.specs.declared.read_error.ReadErrorKind.{ReadErrorKind}
use Rattle.sfc_events.specs.declared.read_error.ReadErrorKind.TheVariants as kind
use Rattle.sfc_events.specs.ReadErrors as reading
use Rattle.sfc_events.specs.LoadErrors as loading
use Rattle.sfc_events.specs.declared.load_error.LoadError.{LoadError}
use Rattle.sfc_events.specs.declared.load_error.LoadError.TheVariants as load
use Rattle.sfc_script.specs.declared.script.ScriptError.{ScriptError}
use Rattle.sfc_script.specs.declared.script.ScriptError.TheVariants as script
use Rattle.sfc_replay.specs.declared.replay_error.ChartError.{ChartError}
use Rattle.sfc_replay.specs.declared.replay_error.ChartError.TheVariants as chart
use Rattle.sfc_replay.specs.declared.replay_error.ReplayError.{ReplayError}
use Rattle.sfc_replay.specs.declared.replay_error.ReplayError.TheVariants.{Chart, Script, Read, Write, Memory}

abbrev pub of_script : ScriptError → ReplayError
of_script (script.Faulty line) = Script line
of_script script.Memory = Memory

abbrev pub of_kind : ReadErrorKind → ReadError → ReplayError
of_kind kind.Memory error = Memory
of_kind _ error = Chart (chart.Read error)

abbrev pub of_read : ReadError → ReplayError
of_read error = of_kind error.kind error

abbrev pub of_load : LoadError → ReplayError
of_load load.Memory = Memory
of_load error = Chart (chart.Load error)

-- 1 where the input is refused, 3 where a device failed, 4 without memory
abbrev pub status_of : ReplayError → ℕ
status_of (Chart error) = 1
status_of (Script line) = 1
status_of Read = 3
status_of Write = 3
status_of Memory = 4

-- what a refused chart is told as: the reader's text, or the loader's
abbrev pub chart_text : ChartError → List ℕ
chart_text (chart.Read error) = reading.error_text error
chart_text (chart.Load error) = loading.error_text error

abbrev pub error_text : ReplayError → List ℕ
error_text (Chart error) = chart_text error
error_text (Script line) = codes "script line " ++ decimal line
error_text Read = codes "read fault"
error_text Write = codes "write fault"
error_text Memory = codes "out of memory"
