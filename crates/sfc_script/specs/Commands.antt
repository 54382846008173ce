-- The commands of a script: a keyword, and what stands behind it on its line (our choice of format).
use Rattle.std.specs.Prelude.{ℕ, ◌==◌, Bool, false, if◌then◌else◌, is_none, List, [], ◌∷◌, codes, ℤ}
use Rattle.std.specs.Prelude.{Option, Some, None, option_map, option_and_then}
use Rattle.sfc_base.specs.Case.{same_word}
use Rattle.sfc_tokens.specs.Lexing.DurationWords.{duration_value}
use Rattle.sfc_base.specs.declared.value.Value.{Value}
use Rattle.sfc_base.specs.declared.ids.ProgId.{ProgId}
use Rattle.sfc_base.specs.declared.ids.VarId.{VarId}
use Rattle.sfc_plant.specs.Plants.{PlantData}
use Rattle.sfc_events.specs.declared.command.Command.{Command}
use Rattle.sfc_events.specs.declared.command.Command.TheVariants.{Scan, Input, Force, Release, Reset}
use Rattle.sfc_events.specs.declared.command.Command.TheVariants.{Read, Break, Unbreak, Stop, Go, Single, End, Epoch}
use Rattle.sfc_script.specs.declared.point.Place.{Place}
use Rattle.sfc_script.specs.Lines.{first_word, only_word, two_words}
use Rattle.sfc_script.specs.Values.{value_of_word}
use Rattle.sfc_script.specs.Names.{task_of, program_of, variable_of, type_of}
use Rattle.sfc_script.specs.Points.{first_point}

-- ---- what stands behind keywords

-- a variable, and the value that a word is for it
abbrev pub valued : PlantData → VarId → List ℕ → Option (VarId × Value)
valued plant id word = option_map (λ v. (id, v)) (value_of_word (type_of plant id) word)

-- a variable and a value
abbrev pub assigned : PlantData → List ℕ → Option (VarId × Value)
assigned plant rest = option_and_then (λ w. valued plant (variable_of plant w.0) w.1) (two_words rest)

-- a point of this program instance in front of a line, and what stands behind it
abbrev pub place_in : PlantData → ProgId → List ℕ → Option (Place × List ℕ)
place_in plant p rest = option_map (λ f. (record { program = p; point = f.0 }, f.1)) (first_point plant p rest)

-- a program instance and one of its points in front of a line, and what stands behind them
abbrev pub first_place : PlantData → List ℕ → Option (Place × List ℕ)
first_place plant rest = option_and_then (λ w. place_in plant (program_of plant w.0) w.1) (first_word rest)

-- a program instance and one of its points, with nothing behind them
abbrev pub only_place : PlantData → List ℕ → Option Place
only_place plant rest = option_and_then (λ f. if is_none (first_word f.1) then Some f.0 else None) (first_place plant rest)

-- ---- the events of the plant

-- SCAN task
abbrev pub scan_of : PlantData → List ℕ → Option Command
scan_of plant rest = option_map (λ name. Scan (task_of plant name)) (only_word rest)

-- INPUT variable value
abbrev pub input_of : PlantData → List ℕ → Option Command
input_of plant rest = option_map (λ a. Input a.0 a.1) (assigned plant rest)

-- FORCE variable value
abbrev pub force_of : PlantData → List ℕ → Option Command
force_of plant rest = option_map (λ a. Force a.0 a.1) (assigned plant rest)

-- RELEASE variable
abbrev pub release_of : PlantData → List ℕ → Option Command
release_of plant rest = option_map (λ name. Release (variable_of plant name)) (only_word rest)

-- RESET program
abbrev pub reset_of : PlantData → List ℕ → Option Command
reset_of plant rest = option_map (λ name. Reset (program_of plant name)) (only_word rest)

-- ---- the debugger's own

-- READ variable
abbrev pub read_of : PlantData → List ℕ → Option Command
read_of plant rest = option_map (λ name. Read (variable_of plant name)) (only_word rest)

-- BREAK program point
abbrev pub break_of : PlantData → List ℕ → Option Command
break_of plant rest = option_map (λ b. Break b.program b.point) (only_place plant rest)

-- UNBREAK program point
abbrev pub unbreak_of : PlantData → List ℕ → Option Command
unbreak_of plant rest = option_map (λ b. Unbreak b.program b.point) (only_place plant rest)

-- SINGLE task duration; a duration below 0 is a command too, which is refused later
abbrev pub single_of : PlantData → List ℕ → Option Command
single_of plant rest =
    option_and_then (λ w. option_map (λ d. Single (task_of plant w.0) d) (duration_value w.1)) (two_words rest)

-- STOP, GO, END and EPOCH
abbrev pub bare_word : List ℕ → Option Command
bare_word keyword =
    if same_word keyword (codes "STOP") then Some Stop else
    if same_word keyword (codes "GO") then Some Go else
    if same_word keyword (codes "END") then Some End else
    if same_word keyword (codes "EPOCH") then Some Epoch else None

-- those have nothing behind them
abbrev pub bare_of : List ℕ → List ℕ → Option Command
bare_of keyword rest = if is_none (first_word rest) then bare_word keyword else None

-- ---- commands

-- one of the debugger's own: its keyword, in any case, and the rest of its line
abbrev pub debugging_of : PlantData → List ℕ → List ℕ → Option Command
debugging_of plant keyword rest =
    if same_word keyword (codes "READ") then read_of plant rest else
    if same_word keyword (codes "BREAK") then break_of plant rest else
    if same_word keyword (codes "UNBREAK") then unbreak_of plant rest else
    if same_word keyword (codes "SINGLE") then single_of plant rest else bare_of keyword rest

-- any that has no condition
abbrev pub command_by : PlantData → List ℕ → List ℕ → Option Command
command_by plant keyword rest =
    if same_word keyword (codes "SCAN") then scan_of plant rest else
    if same_word keyword (codes "INPUT") then input_of plant rest else
    if same_word keyword (codes "FORCE") then force_of plant rest else
    if same_word keyword (codes "RELEASE") then release_of plant rest else
    if same_word keyword (codes "RESET") then reset_of plant rest else debugging_of plant keyword rest

-- The command that stands behind an instant, where it is one without a condition.
abbrev pub command_of : PlantData → List ℕ → Option Command
command_of plant text = option_and_then (λ c. command_by plant c.0 c.1) (first_word text)

-- ---- breakpoints with a condition

-- a point of a program instance, and the text of a condition
pub record Conditional : Type 0 where
  pub place : Place
  pub text : List ℕ

-- behind the point stands WHEN, in any case; all that stands behind that is the text
abbrev pub when_behind : Place → List ℕ × List ℕ → Option Conditional
when_behind place w = if same_word w.0 (codes "WHEN") then Some (record { place = place; text = w.1 }) else None

-- program point WHEN text
abbrev pub when_of : PlantData → List ℕ → Option Conditional
when_of plant rest = option_and_then (λ f. option_and_then (when_behind f.0) (first_word f.1)) (first_place plant rest)

-- BREAK program point WHEN text: such a breakpoint, where one stands behind the instant
abbrev pub conditional_of : PlantData → List ℕ → Option Conditional
conditional_of plant text =
    option_and_then (λ c. if same_word c.0 (codes "BREAK") then when_of plant c.1 else None) (first_word text)

-- ---- lines

-- What a line says, the texts of conditions left unread.
pub data Said : Type 0 where
  -- nothing: it has no words, or begins with a semicolon
  Nothing : Said
  -- a command without a condition, at this instant
  Plain : Command → ℤ → Said
  -- a breakpoint with a condition, at this instant
  When : Conditional → ℤ → Said
  -- it is no command
  Wrong : Said

-- a breakpoint with a condition, where there is one
abbrev pub said_when : Option Conditional → ℤ → Said
said_when None t = Wrong
said_when (Some conditional) t = When conditional t

-- a command without a condition, or else one with a condition
abbrev pub said_by : Option Command → Option Conditional → ℤ → Said
said_by (Some command) conditional t = Plain command t
said_by None conditional t = said_when conditional t

-- an instant, and what stands behind it
abbrev pub said_at : PlantData → Option ℤ → List ℕ → Said
said_at plant None text = Wrong
said_at plant (Some t) text = said_by (command_of plant text) (conditional_of plant text) t

-- 59 is a semicolon
abbrev pub begins_comment : List ℕ → Bool
begins_comment [] = false
begins_comment (b ∷ word) = b == 59

-- A line without words, and one whose first word begins with a semicolon, is skipped. Any other is an instant, in the
-- form of a duration, and a command.
abbrev pub said_behind : PlantData → Option (List ℕ × List ℕ) → Said
said_behind plant None = Nothing
said_behind plant (Some w) = if begins_comment w.0 then Nothing else said_at plant (duration_value w.0) w.1

abbrev pub said_of : PlantData → List ℕ → Said
said_of plant line = said_behind plant (first_word line)
