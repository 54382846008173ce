-- A file that is read line by line.
use Rattle.std.specs.Prelude.{◌≡◌, ℕ, if◌then◌else◌, List, [], ◌∷◌, Result, Ok, Err, ⊤}
use Rattle.sfc_debug.specs.declared.break_condition.BreakCondition.{BreakCondition}
use Rattle.sfc_script.specs.declared.script.ScriptError.{ScriptError}
use Rattle.sfc_script.specs.declared.script.ScriptError.TheVariants.{Faulty, Memory}
use Rattle.sfc_cases.specs.declared.line.Line.{Line}
use Rattle.sfc_cases.specs.declared.named.Named.{Named}
use Rattle.sfc_cases.specs.declared.said.Said.{Said}
use Rattle.sfc_cases.specs.declared.test_file.TestFile.{TestFile}
use Rattle.sfc_cases.specs.Deeds.{is_comma}
use Rattle.sfc_cases.specs.Files.{FileData, read_on, with_line}

-- the bytes before the first comma, and the rest from it on
unfoldable pub before_comma : List ℕ → List ℕ × List ℕ
before_comma [] = ([], [])
before_comma (b ∷ text) = if is_comma b then ([], b ∷ text) else (b ∷ (before_comma text).0, (before_comma text).1)

-- these lines, and then what stands behind them
abbrev pub onto : List Line → Result FileData ℕ → Result FileData ℕ
onto [] file = file
onto (line ∷ lines) file = with_line line (onto lines file)

-- what stands behind a line, where these names and conditions are known
abbrev pub Behind : Type 0
Behind = List Named → List BreakCondition → Result FileData ℕ

-- What line n says was added to a file, whatever stands behind it; or it is told.
abbrev pub Adds : ℕ → Said → List Named → List Named → TestFile → TestFile → Result (Unit {0}) ScriptError → Type 0
Adds n said names later_names old new (Ok _) = (behind : Behind) →
    onto old.lines.items (read_on n names old.table.items said behind) ≡ onto new.lines.items (behind later_names new.table.items)
Adds n said names later_names old new (Err (Faulty m)) =
    (m ≡ n) × ((behind : Behind) → read_on n names old.table.items said behind ≡ Err n)
Adds n said names later_names old new (Err Memory) = ⊤
