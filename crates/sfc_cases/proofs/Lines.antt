-- Lines of a file, one behind the other.
use Rattle.std.proofs.Common.{◌≡◌, ◌∙◌, ◌<◌, refl, sym, ap, subst, ℕ, nat_lt, true, if◌then◌else◌, List, [], ◌∷◌, ◌++◌, length, Result, Ok, Err}
use Rattle.std.specs.Prelude.{IfErr, OnOk}
use Rattle.std.proofs.lemmas.Bool.{lt-ltb}
use Rattle.sfc_events.specs.declared.command.Point.{Point}
use Rattle.sfc_script.specs.declared.script.ScriptError.{ScriptError}
use Rattle.sfc_script.specs.declared.script.ScriptError.TheVariants.{Faulty, Memory}
use Rattle.sfc_cases.specs.declared.deed.Deed.{Deed}
use Rattle.sfc_cases.specs.declared.instant.Instant.{Instant}
use Rattle.sfc_cases.specs.declared.named.Named.{Named}
use Rattle.sfc_cases.specs.declared.said.Said.{Said}
use Rattle.sfc_cases.specs.declared.said.Said.TheVariants.{Does, Waits}
use Rattle.sfc_cases.specs.Answers.{Tells}
use Rattle.sfc_cases.specs.declared.test_file.TestFile.{TestFile}
use Rattle.sfc_debug.specs.declared.break_condition.BreakCondition.{BreakCondition}
use Rattle.sfc_cases.specs.declared.line.Line.{Line}
use Rattle.sfc_cases.specs.Files.{FileData, awaiting, line_of, read_on, with_line}
use Rattle.sfc_cases.specs.Reading.{Adds, Behind, onto}

-- one line more
pub onto_more : (lines : List Line) (line : Line) (file : Result FileData ℕ) → onto lines (with_line line file) ≡ onto (lines ++ line ∷ []) file
onto_more [] line file = refl
onto_more (first ∷ lines) line file = ap (with_line first) (onto_more lines line file)

-- a line that is faulty
pub onto_faulty : (lines : List Line) (n : ℕ) → onto lines (Err n) ≡ Err n
onto_faulty [] n = refl
onto_faulty (first ∷ lines) n = ap (with_line first) (onto_faulty lines n)

-- no line more
pub onto_nothing : (lines : List Line) (table : List BreakCondition)
    → onto lines (Ok (record { lines = []; table = table })) ≡ Ok (record { lines = lines; table = table })
onto_nothing [] table = refl
onto_nothing (first ∷ lines) table = ap (with_line first) (onto_nothing lines table)

-- the same where the table is as it was
pub then_table : {X E : Type 0} (result : Result X E) (old new : TestFile) (table : List BreakCondition) → OnOk result (new.table ≡ old.table)
    → old.table.items ≡ table → OnOk result (new.table.items ≡ table)
then_table (Ok x) old new table same e = ap (λ v. v.items) same ∙ e
then_table (Err error) old new table same e = tt

-- ---- what is added of a line

-- the line was added, or memory was refused
module _ (n : ℕ) (names : List Named) (instant : Instant) (deed : Deed) (old new : TestFile) where
  pub adds_line : (result : Result (Unit {0}) ScriptError) → OnOk result (new.lines.items ≡ old.lines.items ++ line_of n instant deed ∷ [])
      → OnOk result (new.table ≡ old.table) → IfErr result (λ error. error ≡ Memory) → Adds n (Does instant deed) names names old new result
  adds_line (Ok done) lines table memory = λ behind.
      onto_more old.lines.items (line_of n instant deed) (behind names old.table.items)
      ∙ ap (λ ls. onto ls (behind names old.table.items)) (sym lines)
      ∙ ap (λ t. onto new.lines.items (behind names t.items)) (sym table)
  adds_line (Err (Faulty m)) lines table memory = absurd cc
  adds_line (Err Memory) lines table memory = tt

  pub adds_waiting : (point : Point) (awaited : BreakCondition) (result : Result (Unit {0}) ScriptError) → length old.table.items < 65535
      → deed ≡ awaiting (length old.table.items) point awaited
      → OnOk result (new.lines.items ≡ old.lines.items ++ line_of n instant deed ∷ [])
      → OnOk result (new.table.items ≡ old.table.items ++ awaited ∷ []) → IfErr result (λ error. error ≡ Memory)
      → Adds n (Waits instant point awaited) names names old new result
  adds_waiting point awaited (Ok done) room is lines table memory = λ behind.
      ap (λ t. onto old.lines.items (if t then with_line (line_of n instant (awaiting (length old.table.items) point awaited))
      (behind names (old.table.items ++ awaited ∷ [])) else Err n)) (lt-ltb (length old.table.items) 65535 room)
      ∙ ap (λ d. onto old.lines.items (with_line (line_of n instant d) (behind names (old.table.items ++ awaited ∷ [])))) (sym is)
      ∙ onto_more old.lines.items (line_of n instant deed) (behind names (old.table.items ++ awaited ∷ []))
      ∙ ap (λ ls. onto ls (behind names (old.table.items ++ awaited ∷ []))) (sym lines)
      ∙ ap (λ t. onto new.lines.items (behind names t)) (sym table)
  adds_waiting point awaited (Err (Faulty m)) room is lines table memory = absurd cc
  adds_waiting point awaited (Err Memory) room is lines table memory = tt

-- ---- a file, line by line

-- a line was refused
pub tells_refused : (total : Result FileData ℕ) (n : ℕ) (said : Said) (names later : List Named) (old new : TestFile) (behind : Behind) (error : ScriptError)
    → total ≡ onto old.lines.items (read_on n names old.table.items said behind) → Adds n said names later old new (Err error)
    → Tells total (Err error)
tells_refused total n said names later old new behind (Faulty m) e adds =
    e ∙ ap (onto old.lines.items) (adds.1 behind) ∙ onto_faulty old.lines.items n ∙ ap (λ k. Err k) (sym adds.0)
tells_refused total n said names later old new behind Memory e adds = tt
