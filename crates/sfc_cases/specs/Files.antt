-- Whole files of tests: their lines with the table of conditions of breakpoints, or the first faulty line; and their cases.
use Rattle.std.specs.Prelude.{ℕ, suc, nat_lt, Bool, true, false, if◌then◌else◌, List, [], ◌∷◌, ◌++◌, length, map, Result, Ok, Err}
use Rattle.sfc_plant.specs.Plants.{PlantData}
use Rattle.sfc_events.specs.declared.command.Command.TheVariants.{BreakIf}
use Rattle.sfc_events.specs.declared.command.Point.{Point}
use Rattle.sfc_debug.specs.declared.break_condition.BreakCondition.{BreakCondition}
use Rattle.sfc_script.specs.Lines.{lines_of}
use Rattle.sfc_cases.specs.declared.deed.Deed.{Deed}
use Rattle.sfc_cases.specs.declared.deed.Deed.TheVariants.{Begins, Gives}
use Rattle.sfc_cases.specs.declared.instant.Instant.{Instant}
use Rattle.sfc_cases.specs.declared.line.Line.{Line}
use Rattle.sfc_cases.specs.declared.named.Named.{Named}
use Rattle.sfc_cases.specs.declared.said.Said.{Said}
use Rattle.sfc_cases.specs.declared.said.Said.TheVariants.{Nothing, Names, Does, Waits, Wrong}
use Rattle.sfc_cases.specs.Conditions.{Reader}
use Rattle.sfc_cases.specs.Deeds.{said_of}

-- what a file says: lines that do something, and the conditions behind WHEN, in their order
pub record FileData : Type 0 where
  pub lines : List Line
  pub table : List BreakCondition

-- ---- reading

abbrev pub with_line : Line → Result FileData ℕ → Result FileData ℕ
with_line line (Ok file) = Ok (record { lines = line ∷ file.lines; table = file.table })
with_line line (Err n) = Err n

abbrev pub line_of : ℕ → Instant → Deed → Line
line_of n instant deed = record { number = n; instant = instant; deed = deed }

-- the breakpoint at this point of its condition's program instance, which waits for the condition of number k
abbrev pub awaiting : ℕ → Point → BreakCondition → Deed
awaiting k point awaited = Gives (BreakIf awaited.program point (record { 0 = k }))

-- What line n says, where these names stand for words and the table has these conditions, and the lines behind it. The number of a
-- condition is below 65,535.
abbrev pub read_on : ℕ → List Named → List BreakCondition → Said → (List Named → List BreakCondition → Result FileData ℕ)
    → Result FileData ℕ
read_on n names table Nothing behind = behind names table
read_on n names table (Names named) behind = behind (names ++ named ∷ []) table
read_on n names table (Does instant deed) behind = with_line (line_of n instant deed) (behind names table)
read_on n names table (Waits instant point awaited) behind =
    if nat_lt (length table) 65535
    then with_line (line_of n instant (awaiting (length table) point awaited)) (behind names (table ++ awaited ∷ []))
    else Err n
read_on n names table Wrong behind = Err n

-- what these lines say, which are counted from n on; or the number of the first faulty one
abbrev pub read_from : PlantData → Reader → ℕ → List Named → List BreakCondition → List (List ℕ) → Result FileData ℕ
read_from plant read n names table [] = Ok (record { lines = []; table = table })
read_from plant read n names table (text ∷ texts) =
    read_on n names table (said_of plant read names text) (λ named conditions. read_from plant read (suc n) named conditions texts)

-- What a file says; 0 where it has more than 67,108,864 bytes.
abbrev pub file_of : PlantData → Reader → List ℕ → Result FileData ℕ
file_of plant read bytes = if nat_lt 67108864 (length bytes) then Err 0 else read_from plant read 1 [] [] (lines_of bytes)

-- ---- cases

abbrev pub begins_by : Deed → Bool
begins_by (Begins name) = true
begins_by _ = false

abbrev pub begins_case : Line → Bool
begins_case line = begins_by line.deed

-- the lines before the first TEST
abbrev pub before_test : List Line → List Line
before_test [] = []
before_test (line ∷ lines) = if begins_case line then [] else line ∷ before_test lines

-- the lines behind each TEST, up to the next
abbrev pub own_cases : List Line → List (List Line)
own_cases [] = []
own_cases (line ∷ lines) = if begins_case line then before_test lines ∷ own_cases lines else own_cases lines

-- what stands before the first TEST is done before each; where there is no TEST it is the one case
abbrev pub with_front : List Line → List (List Line) → List (List Line)
with_front front [] = front ∷ []
with_front front (own ∷ others) = map (λ lines. front ++ lines) (own ∷ others)

abbrev pub cases_of : List Line → List (List Line)
cases_of lines = with_front (before_test lines) (own_cases lines)
