-- A line of a script, obeyed: its command's answer, and the lines that replay prints for it.
use Rattle.std.specs.Prelude.{◌≡◌, ◌⊎◌, ℕ, ◌<◌, List, [], ◌∷◌, ℤ, pos, slice_get}
use Rattle.std.specs.Prelude.{Option, Some, Result, Ok, Err}
use Rattle.sfc_base.specs.declared.ids.ProgId.{ProgId}
use Rattle.sfc_events.specs.declared.command.Command.TheVariants.{BreakIf}
use Rattle.sfc_events.specs.declared.command.Point.{Point}
use Rattle.sfc_replay.specs.sfc_debug.declared.break_condition.BreakCondition.{BreakCondition}
use Rattle.sfc_replay.specs.sfc_debug.Histories.{CommandHistory, TimedCommand}
use Rattle.sfc_replay.specs.sfc_debug.States.{state_of}
use Rattle.sfc_replay.specs.sfc_debug.Verdict.{verdict, after}
use Rattle.sfc_replay.specs.sfc_script.Scripts.{ScriptData, ScriptReads}
use Rattle.sfc_replay.specs.sfc_output.Commands.{lines_at}
use Rattle.sfc_replay.specs.sfc_debug.Steered.{Steered}
use Rattle.sfc_c.specs.declared.asked.Asked.{Asked}
use Rattle.sfc_c.specs.declared.asked.Asked.TheVariants.{Nothing, Says, NoLine, NoCondition, NoMemory}
use Rattle.sfc_c.specs.declared.obeying.Obeyed.{Obeyed}
use Rattle.sfc_c.specs.declared.plc.Plc.{Plc}
use Rattle.sfc_c.specs.declared.obeying.Obeyed.TheVariants.{Done, Short, OutOfMemory}
use Rattle.sfc_c.specs.Codes.{code_of, unknown, no_memory, no_line, too_short}
use Rattle.sfc_c.specs.Handles.{Holds}
use Rattle.sfc_c.specs.Texts.{GivesText}

-- ---- what a line asks

-- A breakpoint waits for a condition of the opening that is this one, by its number there; or there is none like it.
abbrev pub AsksWhen : List BreakCondition → BreakCondition → ProgId → Point → ℤ → Asked → Type 0
AsksWhen table condition p point t asked =
    ((k : ℕ) × (slice_get table k ≡ Some condition) × (asked ≡ Says (BreakIf p point (record { 0 = k })) t))
    ⊎ (((k : ℕ) → k < 65535 → slice_get table k ≡ Some condition → ⊥) × (asked ≡ NoCondition))

-- the command of the line, which has these conditions: none, or that of its breakpoint
abbrev pub AsksOne : List BreakCondition → List BreakCondition → TimedCommand → Asked → Type 0
AsksOne table (condition ∷ more) (BreakIf p point id, t) asked = AsksWhen table condition p point t asked
AsksOne table conditions timed asked = asked ≡ Says timed.0 timed.1

-- one command at most
abbrev pub AsksIn : List BreakCondition → List BreakCondition → List TimedCommand → Asked → Type 0
AsksIn table conditions [] asked = asked ≡ Nothing
AsksIn table conditions (timed ∷ []) asked = AsksOne table conditions timed asked
AsksIn table conditions (timed ∷ other ∷ more) asked = asked ≡ NoLine

abbrev pub AsksAs : List BreakCondition → Result ScriptData ℕ → Asked → Type 0
AsksAs table (Err n) asked = asked ≡ NoLine
AsksAs table (Ok said) asked = AsksIn table said.table said.commands asked

-- what the line asks, as a script of one line says it; unless memory was refused
abbrev pub Asks : Steered → List ℕ → Asked → Type 0
Asks s line asked =
    ((read : Result ScriptData ℕ) × ScriptReads s.plant line read × AsksAs s.table read asked) ⊎ (asked ≡ NoMemory)

-- ---- what is told of a command

-- the lines that replay prints for a command after others
abbrev pub told_lines : Steered → CommandHistory → TimedCommand → List ℕ
told_lines s h timed =
    lines_at s (state_of s.plant s.table (after s.plant s.table h timed)) timed.0 (verdict s.plant s.table h timed.0 timed.1)

-- nothing was written, and nothing has happened
abbrev pub IsIdle : Steered → CommandHistory → List ℕ → List ℕ → ℕ → Option Plc → Type 0
IsIdle s h old new needed held = (new ≡ old) × (needed ≡ 0) × Holds held s h

-- The command was answered, and its lines are written; or they are longer than the buffer, or memory was refused, and it
-- hasn't happened.
abbrev pub Obeys : Steered → CommandHistory → TimedCommand → List ℕ → List ℕ → ℕ → Option Plc → Obeyed → Type 0
Obeys s h timed old new needed held (Done answer) =
    (answer ≡ verdict s.plant s.table h timed.0 timed.1)
    × GivesText (told_lines s h timed) old new needed (pos 0) × Holds held s (after s.plant s.table h timed)
Obeys s h timed old new needed held Short = GivesText (told_lines s h timed) old new needed too_short × Holds held s h
Obeys s h timed old new needed held OutOfMemory = IsIdle s h old new needed held

abbrev pub number_of : Obeyed → ℤ
number_of (Done answer) = code_of answer
number_of Short = too_short
number_of OutOfMemory = no_memory

-- what comes of what the line asks
abbrev pub Does : Steered → CommandHistory → Asked → List ℕ → List ℕ → ℕ → Option Plc → ℤ → Type 0
Does s h (Says command t) old new needed held result =
    (obeyed : Obeyed) × Obeys s h (command, t) old new needed held obeyed × (result ≡ number_of obeyed)
Does s h Nothing old new needed held result = (result ≡ pos 0) × IsIdle s h old new needed held
Does s h NoLine old new needed held result = (result ≡ no_line) × IsIdle s h old new needed held
Does s h NoCondition old new needed held result = (result ≡ unknown) × IsIdle s h old new needed held
Does s h NoMemory old new needed held result = (result ≡ no_memory) × IsIdle s h old new needed held
