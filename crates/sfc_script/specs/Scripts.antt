-- Whole scripts: commands with their instants and a table of conditions, or the number of the first line that is no command.
use Rattle.std.specs.Prelude.{◌≡◌, ℕ, suc, ◌+◌, nat_lt, if◌then◌else◌, List, [], ◌∷◌, ◌++◌, length, MatchBool}
use Rattle.std.specs.Prelude.{ℤ, Option, Some, None, Result, Ok, Err}
use Rattle.sfc_base.specs.declared.ids.ProgId.{ProgId}
use Rattle.sfc_plant.specs.Plants.{PlantData}
use Rattle.sfc_events.specs.ReadErrors.{Read}
use Rattle.sfc_text.specs.Reads.{ExpressionReads}
use Rattle.sfc_text.specs.Trees.{Tree}
use Rattle.sfc_events.specs.declared.command.Command.TheVariants.{BreakIf}
use Rattle.sfc_debug.specs.declared.break_condition.BreakCondition.{BreakCondition}
use Rattle.sfc_debug.specs.Histories.{TimedCommand}
use Rattle.sfc_script.specs.Conditions as conditions
use Rattle.sfc_script.specs.Conditions.{ConditionFault, condition_of}
use Rattle.sfc_script.specs.Lines.{lines_of}
use Rattle.sfc_script.specs.Commands.{Conditional, Said, Nothing, Plain, When, Wrong, said_of}

-- what a script says: commands with their raw instants, and the conditions of breakpoints, in the order of their lines
pub record ScriptData : Type 0 where
  pub commands : List TimedCommand
  pub table : List BreakCondition

abbrev pub nothing_said : ScriptData
nothing_said = record { commands = []; table = [] }

-- one after the other
abbrev pub joined : ScriptData → ScriptData → ScriptData
joined first second = record { commands = first.commands ++ second.commands; table = first.table ++ second.table }

-- ---- the conditions of breakpoints

-- What a condition that was checked adds to the table: itself, or nothing where its program instance isn't there, since then no names
-- are known. None where it has a type fault.
abbrev pub added_by : Result BreakCondition ConditionFault → Option (List BreakCondition)
added_by (Ok condition) = Some (condition ∷ [])
added_by (Err (conditions.UnknownProgram place)) = Some []
added_by (Err (conditions.Wrong place fault)) = None

-- by what its text is read as; a text that is no expression is no condition
abbrev pub added_of : PlantData → ℕ → ProgId → Read Tree → Option (List BreakCondition)
added_of plant k p (Ok tree) = added_by (condition_of plant k p tree)
added_of plant k p (Err kind) = None

-- what a text adds to a table of k conditions, as the condition of a breakpoint of a program instance
abbrev pub ConditionReads : PlantData → ℕ → ProgId → List ℕ → Option (List BreakCondition) → Type 0
ConditionReads plant k p text added = (r : Read Tree) × ExpressionReads text r × (added ≡ added_of plant k p r)

-- ---- lines

-- the breakpoint waits for the condition of number k, also where that is not in the table
abbrev pub numbered : ℕ → Conditional → ℤ → List BreakCondition → ScriptData
numbered k c t added =
    record { commands = (BreakIf c.place.program c.place.point (record { 0 = k }), t) ∷ []; table = added }

-- A number of a condition is below 65,535. No script has a line for each of these, since it has 1,048,576 bytes at most.
abbrev pub in_table : ℕ → Conditional → ℤ → Option (List BreakCondition) → Option ScriptData
in_table k c t None = None
in_table k c t (Some added) = if nat_lt k 65535 then Some (numbered k c t added) else None

-- what a line says behind others with k conditions; None where it is no command
abbrev pub LineReads : PlantData → ℕ → Said → Option ScriptData → Type 0
LineReads plant k Nothing said = said ≡ Some nothing_said
LineReads plant k (Plain command t) said = said ≡ Some (record { commands = (command, t) ∷ []; table = [] })
LineReads plant k (When c t) said =
    (added : Option (List BreakCondition)) × ConditionReads plant k c.place.program c.text added × (said ≡ in_table k c t added)
LineReads plant k Wrong said = said ≡ None

-- what is said first, and then the rest
abbrev pub and_then : ScriptData → Result ScriptData ℕ → Result ScriptData ℕ
and_then first (Ok rest) = Ok (joined first rest)
and_then first (Err n) = Err n

-- What line n says, and the lines behind it, which go on with so many conditions more. A line that is no command is told.
abbrev pub Continues : ℕ → ℕ → (ℕ → Result ScriptData ℕ → Type 0) → Option ScriptData → Result ScriptData ℕ → Type 0
Continues n k Behind None outcome = outcome ≡ Err n
Continues n k Behind (Some first) outcome =
    (rest : Result ScriptData ℕ) × Behind (k + length first.table) rest × (outcome ≡ and_then first rest)

-- what these lines say, which are counted from n on and stand behind others with k conditions
abbrev pub LinesRead : PlantData → ℕ → ℕ → List (List ℕ) → Result ScriptData ℕ → Type 0
LinesRead plant n k [] outcome = outcome ≡ Ok nothing_said
LinesRead plant n k (line ∷ lines) outcome =
    (said : Option ScriptData) × LineReads plant k (said_of plant line) said
    × Continues n k (λ j rest. LinesRead plant (suc n) j lines rest) said outcome

-- ---- scripts

-- what a script says, or the number of its first line that is no command; 0 where it has more than 1,048,576 bytes
abbrev pub ScriptReads : PlantData → List ℕ → Result ScriptData ℕ → Type 0
ScriptReads plant bytes outcome =
    MatchBool (nat_lt 1048576 (length bytes)) (outcome ≡ Err 0) (LinesRead plant 1 0 (lines_of bytes) outcome)
