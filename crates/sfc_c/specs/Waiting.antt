-- Breakpoints with conditions that are read then.
use Rattle.std.specs.Prelude.{◌≡◌, ◌⊎◌, List, [], ◌∷◌, ℕ, ℤ, Option, Some, None, Result, Ok, Err}
use Rattle.sfc_base.specs.declared.ids.ProgId.{ProgId}
use Rattle.sfc_events.specs.declared.command.Command.TheVariants.{BreakIf}
use Rattle.sfc_events.specs.declared.command.Point.{Point}
use Rattle.sfc_replay.specs.sfc_debug.declared.break_condition.BreakCondition.{BreakCondition}
use Rattle.sfc_replay.specs.sfc_debug.Histories.{CommandHistory, TimedCommand}
use Rattle.sfc_replay.specs.sfc_debug.Steered.{Steered}
use Rattle.sfc_replay.specs.sfc_debug.Verdict.{after, history_by, verdict}
use Rattle.sfc_replay.specs.sfc_output.Output.{Verdict}
use Rattle.sfc_replay.specs.sfc_script.declared.condition_error.ConditionError.{ConditionError}
use Rattle.sfc_replay.specs.sfc_script.declared.condition_error.ConditionError.TheVariants as error
use Rattle.sfc_replay.specs.sfc_script.Scripts.{ConditionReads}
use Rattle.sfc_session.specs.Sessions.{steered_after, waiting, waiting_verdict}
use Rattle.sfc_c.specs.declared.plc.Plc.{Plc}
use Rattle.sfc_c.specs.declared.waiting.Found.{Found}
use Rattle.sfc_c.specs.declared.waiting.Found.TheVariants.{Condition, NoProgram, Faulty}
use Rattle.sfc_c.specs.Codes.{code_of, no_expression, no_memory}
use Rattle.sfc_c.specs.Handles.{Holds}

-- ---- what a text is as a condition

-- what it adds to a table of conditions, where a script has it
abbrev pub added_by : Found → Option (List BreakCondition)
added_by (Condition condition) = Some (condition ∷ [])
added_by NoProgram = Some []
added_by Faulty = None

-- it is what checking gave; without memory nothing is found
abbrev pub IsFound : Result BreakCondition ConditionError → Found → Type 0
IsFound (Ok condition) found = added_by found ≡ Some (condition ∷ [])
IsFound (Err (error.UnknownProgram place)) found = added_by found ≡ Some []
IsFound (Err (error.Wrong place fault)) found = added_by found ≡ None
IsFound (Err error.Memory) found = ⊥

-- ---- what comes of it

-- a breakpoint in a program instance that isn't there, which is refused whatever it waits for
abbrev pub nowhere : ProgId → Point → ℤ → TimedCommand
nowhere p point t = (BreakIf p point (record { 0 = 0 }), t)

-- the breakpoint was answered so, and where it was accepted the condition has joined the table behind all others
abbrev pub IsSet : Steered → CommandHistory → Point × ℤ → BreakCondition → Verdict → Option Plc → Type 0
IsSet s h placed condition told new = Holds new (steered_after told s condition) (history_by told (waiting s placed condition) h)

-- A breakpoint that waits for what the text is, which is set at a point at this instant. The text is no condition, and nothing has
-- happened; there is no such program instance; or the condition joins the table.
abbrev pub Waits : Steered → CommandHistory → ProgId → Point × ℤ → Option (List BreakCondition) → Option Plc → ℤ → Type 0
Waits s h p placed None new result = (result ≡ no_expression) × Holds new s h
Waits s h p placed (Some []) new result =
    (result ≡ code_of (verdict s.plant s.table h (nowhere p placed.0 placed.1).0 placed.1))
    × Holds new s (after s.plant s.table h (nowhere p placed.0 placed.1))
Waits s h p placed (Some (condition ∷ more)) new result =
    (result ≡ code_of (waiting_verdict s h placed condition)) × IsSet s h placed condition (waiting_verdict s h placed condition) new

-- the same; or memory was refused, and nothing has happened
abbrev pub WaitsOr : Steered → CommandHistory → ProgId → Point × ℤ → Option (List BreakCondition) → Option Plc → ℤ → Type 0
WaitsOr s h p placed added new result = Waits s h p placed added new result ⊎ ((result ≡ no_memory) × Holds new s h)

-- by a text
abbrev pub SetsBy : Steered → CommandHistory → ProgId → Point × ℤ → List ℕ → Option Plc → ℤ → Type 0
SetsBy s h p placed text new result =
    (added : Option (List BreakCondition)) × ConditionReads s.plant 0 p text added × WaitsOr s h p placed added new result

-- where memory was refused to the reader, nothing has happened either
abbrev pub Sets : Steered → CommandHistory → ProgId → Point × ℤ → List ℕ → Option Plc → ℤ → Type 0
Sets s h p placed text new result = SetsBy s h p placed text new result ⊎ ((result ≡ no_memory) × Holds new s h)
