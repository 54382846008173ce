-- Which conditions of its table a history names (our choice).
use Rattle.std.specs.Prelude.{ℕ, ◌<◌, ⊤, List, [], ◌∷◌, ◌++◌, length}
use Rattle.sfc_events.specs.declared.command.Command.{Command}
use Rattle.sfc_events.specs.declared.command.Command.TheVariants.{BreakIf}
use Rattle.sfc_events.specs.declared.command.Point.{Point}
use Rattle.sfc_debug.specs.declared.break_condition.BreakCondition.{BreakCondition}
use Rattle.sfc_debug.specs.Histories.{CommandHistory}

-- the command names none, or one of the first n
abbrev pub IsNamedWithin : ℕ → Command → Type 0
IsNamedWithin n (BreakIf p point id) = id.0 < n
IsNamedWithin n _ = ⊤

-- and so does each command of the history
abbrev pub NamesWithin : ℕ → CommandHistory → Type 0
NamesWithin n [] = ⊤
NamesWithin n (timed ∷ h) = IsNamedWithin n timed.0 × NamesWithin n h

-- the table with one more condition behind all others
abbrev pub with_condition : List BreakCondition → BreakCondition → List BreakCondition
with_condition table condition = table ++ condition ∷ []

-- a breakpoint that waits for the condition behind all of the table
abbrev pub break_when : List BreakCondition → Point → BreakCondition → Command
break_when table point condition = BreakIf condition.program point (record { 0 = length table })
