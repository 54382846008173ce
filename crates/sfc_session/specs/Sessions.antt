-- A session: commands one after the other, each answered with the lines that a replay writes for it.
use Rattle.std.specs.Prelude.{◌≡◌, ℕ, nat_lt, cond, List, [], ◌∷◌, ◌++◌, length, reverse, ℤ, pos, Ok, Err, codes}
use Rattle.sfc_base.specs.TimeText.{time_text}
use Rattle.sfc_events.specs.declared.command.Command.{Command}
use Rattle.sfc_events.specs.declared.command.Point.{Point}
use Rattle.sfc_events.specs.declared.command.TraceRow.{TraceRow}
use Rattle.sfc_output.specs.sfc_debug.declared.break_condition.BreakCondition.{BreakCondition}
use Rattle.sfc_output.specs.sfc_debug.declared.debugger.Debugger.{Debugger}
use Rattle.sfc_output.specs.sfc_debug.Agreement.{Agrees}
use Rattle.sfc_output.specs.sfc_debug.Histories.{CommandHistory, TimedCommand}
use Rattle.sfc_output.specs.sfc_debug.Longer.{break_when, with_condition}
use Rattle.sfc_output.specs.sfc_debug.Meaning.{IsAccepted}
use Rattle.sfc_output.specs.sfc_debug.Sums.{all_rows}
use Rattle.sfc_output.specs.sfc_debug.Tracing.{row_of}
use Rattle.sfc_output.specs.sfc_debug.Verdict.{history_by, refused_unnumbered}
use Rattle.sfc_output.specs.Commands.{command_text}
use Rattle.sfc_output.specs.sfc_debug.Steered.{Steered, steered_by}
use Rattle.sfc_output.specs.Output.{Verdict, command_lines, debugger_of, text_of}
use Rattle.sfc_session.specs.declared.session.Session.{Session}

-- ---- what a session holds

-- the debugger to which its commands are given
unfoldable pub debugger_in : Session → Debugger
debugger_in session = session.debugger

-- the raw instant of its last accepted command, 0 before the first
unfoldable pub instant_in : Session → ℤ
instant_in session = session.instant

-- its accepted commands as a script
unfoldable pub script_in : Session → List ℕ
script_in session = session.script.items

-- its accepted commands with their answers
unfoldable pub rows_in : Session → List TraceRow
rows_in session = session.rows.items

-- how many conditions its table has
unfoldable pub count_in : Session → ℕ
count_in session = session.conditions

-- the plant that it steers, and the conditions that its breakpoints wait for
abbrev pub steered_in : Session → Steered
steered_in session = steered_by (debugger_in session)

-- ---- what it has said

-- the raw instant of the last of these commands, of which the newest is the first; 0 before the first
abbrev pub last_instant : CommandHistory → ℤ
last_instant [] = pos 0
last_instant (timed ∷ h) = timed.1

-- what a replay writes for these commands, of which the newest is the first
abbrev pub history_lines : Steered → CommandHistory → List ℕ
history_lines steered [] = []
history_lines steered (timed ∷ h) = history_lines steered h ++ command_lines (debugger_of steered) (text_of steered) h timed

-- the row of each of these commands, the first first: its number, its raw and its run instant, the command and its answer
abbrev pub rows_of : Steered → CommandHistory → List TraceRow
rows_of steered h = reverse (all_rows steered.plant steered.table h)

-- The session has accepted these commands, the newest first; its lines of them are those of a replay, and its rows are theirs.
pub record HasSaid (session : Session) (h : CommandHistory) (lines : List ℕ) : Type 0 where
  pub agrees : Agrees (debugger_in session) h
  pub accepted : IsAccepted (steered_in session).plant (steered_in session).table h
  pub instant : instant_in session ≡ last_instant h
  pub count : count_in session ≡ length (steered_in session).table
  pub text : lines ≡ history_lines (steered_in session) h
  pub rows : rows_in session ≡ rows_of (steered_in session) h

-- the lines of what was accepted, with those of one command more
abbrev pub with_lines : Verdict → List ℕ → List ℕ → List ℕ
with_lines (Ok answer) lines more = lines ++ more
with_lines (Err refusal) lines more = lines

-- Where the command was accepted, its row stands behind those of the others.
abbrev pub rows_after : Verdict → Steered → CommandHistory → TimedCommand → List TraceRow → List TraceRow
rows_after (Ok answer) steered h timed rows = rows ++ row_of steered.plant steered.table h timed.0 timed.1 answer ∷ []
rows_after (Err refusal) steered h timed rows = rows

-- ---- a breakpoint with a condition

-- with this condition behind all others
abbrev pub with_one_more : Steered → BreakCondition → Steered
with_one_more steered condition = record { plant = steered.plant; table = with_condition steered.table condition }

-- the breakpoint at a point that waits for it, at a raw instant
abbrev pub waiting : Steered → Point × ℤ → BreakCondition → TimedCommand
waiting steered placed condition = (break_when steered.table placed.0 condition, placed.1)

-- What it is answered with the longer table. A table of 65,535 conditions takes no more of them: then the condition isn't there.
abbrev pub waiting_verdict : Steered → CommandHistory → Point × ℤ → BreakCondition → Verdict
waiting_verdict steered h placed condition =
    cond (nat_lt (length steered.table) 65535)
    ((debugger_of (with_one_more steered condition)).verdict h (waiting steered placed condition))
    (Err (refused_unnumbered steered.plant ((debugger_of steered).state h) (length h) condition.program placed.0 placed.1))

-- Where it was accepted the condition has joined the table, else it is given up.
abbrev pub steered_after : Verdict → Steered → BreakCondition → Steered
steered_after (Ok answer) steered condition = with_one_more steered condition
steered_after (Err refusal) steered condition = steered

-- what a replay writes of a command that was answered so
abbrev pub lines_by : Verdict → Steered → CommandHistory → TimedCommand → List ℕ
lines_by answer steered h timed = (text_of steered).command ((debugger_of steered).state (history_by answer timed h)) timed answer

-- ---- its script

-- the line of a command: its raw instant, and its words
abbrev pub script_line : ℤ → List ℕ → List ℕ
script_line raw words = time_text raw ++ codes " " ++ words ++ codes "\n"

-- Where the command was accepted, its line stands behind those of the others.
abbrev pub script_after : Verdict → List ℕ → ℤ → List ℕ → List ℕ
script_after (Ok answer) script raw words = script ++ script_line raw words
script_after (Err refusal) script raw words = script

-- the words of a command as a replay writes them, without the blank in front
abbrev pub behind_blank : List ℕ → List ℕ
behind_blank [] = []
behind_blank (blank ∷ words) = words

abbrev pub words_of : Steered → Command → List ℕ
words_of steered command = behind_blank (command_text steered command)

-- ---- from one session to the next

-- A command that these words say was given behind those that were accepted. It is answered by the verdict, and its lines, which are put
-- behind other text, are those of a replay. Where it was accepted it is a line of the script.
pub record IsGiven (old new : Session) (before behind : List ℕ) (told : Verdict) (h : CommandHistory) (lines : List ℕ)
    (timed : TimedCommand) (words : List ℕ) : Type 0 where
  pub steered : steered_in new ≡ steered_in old
  pub answer : told ≡ (debugger_of (steered_in old)).verdict h timed
  pub written : behind ≡ before ++ command_lines (debugger_of (steered_in old)) (text_of (steered_in old)) h timed
  pub said : HasSaid new ((debugger_of (steered_in old)).after h timed) (with_lines ((debugger_of (steered_in old)).verdict h timed) lines
      (command_lines (debugger_of (steered_in old)) (text_of (steered_in old)) h timed))
  pub script : script_in new ≡ script_after told (script_in old) timed.1 words

-- the same of a command in the words of a replay
abbrev pub IsTaken : Session → Session → List ℕ → List ℕ → Verdict → CommandHistory → List ℕ → TimedCommand → Type 0
IsTaken old new before behind told h lines timed =
    IsGiven old new before behind told h lines timed (words_of (steered_in old) timed.0)

-- A breakpoint with a condition, which these words say, was set or refused behind those commands: the same with the longer table.
pub record IsWaiting (old new : Session) (before behind : List ℕ) (told : Verdict) (h : CommandHistory) (lines : List ℕ)
    (placed : Point × ℤ) (condition : BreakCondition) (words : List ℕ) : Type 0 where
  pub steered : steered_in new ≡ steered_after told (steered_in old) condition
  pub answer : told ≡ waiting_verdict (steered_in old) h placed condition
  pub written : behind ≡ before ++ lines_by (waiting_verdict (steered_in old) h placed condition)
      (with_one_more (steered_in old) condition) h (waiting (steered_in old) placed condition)
  pub said : HasSaid new (history_by (waiting_verdict (steered_in old) h placed condition) (waiting (steered_in old) placed condition) h)
      (with_lines (waiting_verdict (steered_in old) h placed condition) lines
      (lines_by (waiting_verdict (steered_in old) h placed condition) (with_one_more (steered_in old) condition) h
      (waiting (steered_in old) placed condition)))
  pub script : script_in new ≡ script_after told (script_in old) placed.1 words

-- Nothing more was accepted.
pub record Stays (old new : Session) (h : CommandHistory) (lines : List ℕ) : Type 0 where
  pub steered : steered_in new ≡ steered_in old
  pub said : HasSaid new h lines
  pub script : script_in new ≡ script_in old
